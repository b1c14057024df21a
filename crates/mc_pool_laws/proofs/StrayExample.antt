-- Runs of which all clauses of an account hold except one, and whose history does not follow the proxy: two commands on one link are
-- exchanged.
use Rattle.std.proofs.Common.{◌≡◌, ◌≢◌, ◌∙◌, ℕ, zero, suc, ◌==◌, ◌⊎◌, inl, inr, Bool, true, false, if◌then◌else◌, List, [], ◌∷◌, ◌++◌, map, Some, slice_get, refl, sym, ap, ap₂, subst, arith}
use Rattle.std.specs.Prelude.{codes}
use Rattle.std.proofs.lemmas.Bool.{false≢true, true≢false}
use Rattle.std.proofs.lemmas.Bool.Decides.{eqb_tells}
use Rattle.std.proofs.lemmas.List.Elements.{All-cons, All-nil}
use Rattle.std.proofs.lemmas.Option.{same_Some}
use Rattle.mc_request.specs.declared.parts.Parsed.{Parsed}
use Rattle.mc_request.specs.Requests.{requests_of}
use Rattle.mc_reply.specs.Spelling.{spelling_of}
use Rattle.mc_reply.specs.declared.replies.Reply.TheVariants.{Flushed}
use Rattle.mc_ring.specs.Rings.{RingState}
use Rattle.mc_route.specs.Routes.{route_of_taken, to_place}
use Rattle.mc_route.specs.declared.losses.Losses.{Losses}
use Rattle.mc_route.specs.declared.losses.Losses.TheVariants.{Told}
use Rattle.mc_route.specs.declared.outcomes.Outcome.{Outcome}
use Rattle.mc_route.specs.declared.outcomes.Outcome.TheVariants as outcomes
use Rattle.mc_link.specs.declared.turns.Tag.{Tag}
use Rattle.mc_proxy.specs.Sending.{tag_of}
use Rattle.mc_account.specs.Lookups.{asked_at, command_at, outcome_at}
use Rattle.mc_account.specs.Orders.{AreInOrder, IsSized, Order, Tagged, TakenRequest, commands_from, entries_of}
use Rattle.mc_world.specs.declared.events.Event.TheVariants.{ProxyTurn}
use Rattle.mc_world.specs.Accounts.{WasTaken}
use Rattle.mc_world.specs.Logs.{IsRingAfter, Log, before, drops, number_of, serves, takes}
use Rattle.mc_world.specs.declared.logs.Logged.{Logged}
use Rattle.mc_world.specs.declared.logs.Logged.TheVariants.{Happened}
use Rattle.mc_world.proofs.Log.LogLemmas.{IsEvent}
use Rattle.mc_history.specs.declared.entries.Entry.{Entry}
use Rattle.mc_history.specs.Histories.{IsLegal, tag_in}
use Rattle.mc_history.specs.Named.{tags_of}
use Rattle.mc_pool_laws.specs.Followed.{AreSentBy, FollowsProxy}
use Rattle.mc_pool_laws.specs.Without.{AccountsBut, Allows, Clause, Followed, Numbered, Turns}
use Rattle.mc_pool_laws.proofs.NeedLemmas.{Follows, a_cache, first_only, first_there, flush, flush_asked, followed_one, is_lost, is_reply, lives_of_first, none_complete, none_out, one_here, one_home, one_server, outcome_in_request, serves_one, takes_one}
use Rattle.mc_pool_laws.proofs.OrderExample.{two_here, two_read, two_text}

-- a flush of a client, which awaits its reply, and its entry
abbrev flush_by : ℕ → ℕ → TakenRequest
flush_by client request = record { session = client; request = request; what = flush_asked; ring = one_server; losses = Told; outcomes = outcomes.Awaited ∷ [] }

abbrev entry_by : ℕ → ℕ → Entry
entry_by client request = record { client = client; request = request; atom = 0; moment = 5; refused = false; reply = spelling_of flush Flushed }

-- two of them, of one client or of two, are taken, and the server takes both
abbrev two_turns : ℕ → Log
two_turns second = takes_one ∷ Happened (ProxyTurn second) ∷ serves_one ∷ serves_one ∷ []

-- an order of two is of such requests
abbrev IsFlush : TakenRequest → Type 0
IsFlush e = (e.what ≡ flush_asked) × (e.ring ≡ one_server) × (e.outcomes ≡ outcomes.Awaited ∷ [])

each_by : (v w : Bool) (x y : TakenRequest) (k : ℕ) (e : TakenRequest) → slice_get (if v then x ∷ (if w then y ∷ [] else []) else (if w then y ∷ [] else [])) k ≡ Some e → (e ≡ x) ⊎ (e ≡ y)
each_by true true x y k e at = elim (two_here x y k e at) [
  | inl h ↦ inl h.1
  | inr h ↦ inr h.1
]
each_by true false x y k e at = inl (one_here x k e at).1
each_by false true x y k e at = inr (one_here y k e at).1
each_by false false x y zero e at = absurd cc
each_by false false x y (suc k) e at = absurd cc

asked_each : (x y : TakenRequest) (client request : ℕ) (e : TakenRequest) → asked_at (x ∷ y ∷ []) client request ≡ Some e → (e ≡ x) ⊎ (e ≡ y)
asked_each x y client request e at = each_by (x.session == client) (y.session == client) x y request e at

flush_each : (x y : TakenRequest) (client request : ℕ) (e : TakenRequest) → IsFlush x → IsFlush y → asked_at (x ∷ y ∷ []) client request ≡ Some e → IsFlush e
flush_each x y client request e hx hy at = elim (asked_each x y client request e at) [
  | inl same ↦ subst (λ (z : TakenRequest). IsFlush z) (sym same) hx
  | inr same ↦ subst (λ (z : TakenRequest). IsFlush z) (sym same) hy
]

-- no command has an outcome
awaits : (x y : TakenRequest) (tag : Tag) (q : Outcome) → IsFlush x → IsFlush y → outcome_at (x ∷ y ∷ []) tag ≡ Some q → q ≡ outcomes.Awaited
awaits x y tag q hx hy became =
    let found = outcome_in_request (asked_at (x ∷ y ∷ []) tag.session tag.request) tag.atom q became in
    let is = flush_each x y tag.session tag.request found.0 hx hy found.1 in
    (one_here outcomes.Awaited tag.atom q (ap (λ (os : List Outcome). slice_get os tag.atom) (sym is.2) ∙ found.2)).1

text_each : (v w : Bool) (a m b n : ℕ) → (untaken : List Parsed) × (map (λ (e : TakenRequest). e.what)
    (if v then flush_by a m ∷ (if w then flush_by b n ∷ [] else []) else (if w then flush_by b n ∷ [] else [])) ++ untaken ≡ requests_of (codes "flush_all\r\nflush_all\r\n"))
text_each true true a m b n = ([], sym two_read)
text_each true false a m b n = (flush_asked ∷ [], sym two_read)
text_each false true a m b n = (flush_asked ∷ [], sym two_read)
text_each false false a m b n = (flush_asked ∷ flush_asked ∷ [], sym two_read)

-- a log of events leaves the ring, at each place
abbrev AreEvents : Log → Type 0
AreEvents [] = Unit {0}
AreEvents (e ∷ es) = IsEvent e × AreEvents es

ring_there : (is : Logged → Bool) (number : ℕ) (log : Log) (ring : RingState) → AreEvents log → IsRingAfter 0 ring (before is number log) ring
ring_there is number [] ring h = refl
ring_there is zero (Happened event ∷ es) ring h =
    (elim (is (Happened event)) as (λ v. IsRingAfter 0 ring (if v then [] else Happened event ∷ before is zero es) ring) [
      | true ↦ refl
      | false ↦ ring_there is zero es ring h.1
    ])
ring_there is (suc number) (Happened event ∷ es) ring h = ring_there is (if is (Happened event) then number else suc number) es ring h.1
ring_there is number (e ∷ es) ring h = absurd h.0

moments_each : (v : Bool) (d e : Entry) → d.moment ≡ 5 → e.moment ≡ 5
    → map (λ (x : Entry). x.moment) (if v then d ∷ e ∷ [] else []) ≡ (if v then 5 ∷ [] else []) ++ ((if v then 5 ∷ [] else []) ++ [])
moments_each true d e first second = ap (λ (m : ℕ). m ∷ e.moment ∷ []) first ∙ ap (λ (m : ℕ). 5 ∷ m ∷ []) second
moments_each false d e first second = refl

follows_each : (v : Bool) (c d : Tagged) (x y : Entry) → tag_in x ≡ c.1 → tag_in y ≡ d.1
    → Follows (if v then x ∷ y ∷ [] else []) (tags_of ((if v then c ∷ [] else []) ++ ((if v then d ∷ [] else []) ++ [])))
follows_each true c d x y first second = ([], ap₂ (λ (t u : Tag). t ∷ u ∷ []) first second)
follows_each false c d x y first second = ([], refl)

-- two entries are of two commands, and each was taken before
once_each : (x y : Entry) (j k : ℕ) (d e : Entry) → (tag_in x ≡ tag_in y → ⊥) → slice_get (x ∷ y ∷ []) j ≡ Some d → slice_get (x ∷ y ∷ []) k ≡ Some e → tag_in d ≡ tag_in e → j ≡ k
once_each x y j k d e apart at also same = grind (arith, two_here)

taken_each : (x y : Entry) (k : ℕ) (e : Entry) (log : Log) → WasTaken (tag_in x) (before (serves 0) 0 log) → WasTaken (tag_in y) (before (serves 0) 1 log)
    → slice_get (x ∷ y ∷ []) k ≡ Some e → WasTaken (tag_in e) (before (serves 0) k log)
taken_each x y k e log first second at = grind (arith, two_here)

-- such a run, by the clients and numbers of its requests, in the order and in the history
stray_but : (one : Clause) (losses : Losses) (a m b n p q r s second : ℕ)
    → (one ≢ Turns → a ∷ b ∷ [] ≡ 0 ∷ second ∷ [])
    → (one ≢ Numbered → (client : ℕ) → AreInOrder (entries_of client (flush_by a m ∷ flush_by b n ∷ [])))
    → (one ≢ Followed → (tag_of p q 0 ≡ tag_of a m 0) × (tag_of r s 0 ≡ tag_of b n 0))
    → IsLegal (flush_by a m ∷ flush_by b n ∷ []) 0 a_cache (entry_by p q ∷ entry_by r s ∷ [])
    → (tag_of p q 0 ≡ tag_of r s 0 → ⊥)
    → WasTaken (tag_of p q 0) (before (serves 0) 0 (two_turns second)) → WasTaken (tag_of r s 0) (before (serves 0) 1 (two_turns second))
    → AccountsBut one one_home losses one_server a_cache (flush_by a m ∷ flush_by b n ∷ []) two_text (λ _. []) (first_only (entry_by p q ∷ entry_by r s ∷ [])) (two_turns second)
stray_but one losses a m b n p q r s second turns numbered followed legal apart first_taken second_taken =
    let x = flush_by a m in
    let y = flush_by b n in
    let waits : (tag : Tag) (o : Outcome) → outcome_at (flush_by a m ∷ flush_by b n ∷ []) tag ≡ Some o → o ≡ outcomes.Awaited = λ tag o became.
    awaits (flush_by a m) (flush_by b n) tag o (refl, refl, refl) (refl, refl, refl) became in
    record {
      asked = λ keeps client. text_each (a == client) (b == client) a m b n;
      turns = turns;
      numbered = numbered;
      rings = λ keeps client request e at.
          subst (λ (ring : RingState). IsRingAfter 0 one_server (before (takes client) request (two_turns second)) ring)
          (sym (flush_each (flush_by a m) (flush_by b n) client request e (refl, refl, refl) (refl, refl, refl) at).1)
          (ring_there (takes client) request (two_turns second) one_server (tt, (tt, (tt, (tt, tt)))));
      sized = λ keeps. All-cons IsSized (flush_by a m) (flush_by b n ∷ []) refl (All-cons IsSized (flush_by b n) [] refl (All-nil IsSized));
      legal = λ keeps. lives_of_first (flush_by a m ∷ flush_by b n ∷ []) a_cache (entry_by p q ∷ entry_by r s ∷ []) (two_turns second) (λ place. refl) legal;
      once = λ keeps i k j l d e at also same.
          let here = first_there (entry_by p q ∷ entry_by r s ∷ []) i j d at in
          let there = first_there (entry_by p q ∷ entry_by r s ∷ []) k l e also in
          (sym here.0 ∙ there.0, once_each (entry_by p q) (entry_by r s) j l d e apart here.1 there.1 same);
      replied = λ keeps tag place atom reply at became. absurd (true≢false (ap is_reply (waits tag (outcomes.Reply reply) became)));
      lost = λ keeps tag place atom at became. absurd (true≢false (ap is_lost (waits tag outcomes.Lost became)));
      ordered = λ keeps place j k d e u w at also less same became. absurd (true≢false (ap is_reply (waits (tag_in d) (outcomes.Reply u) became)));
      followed = λ keeps.
          let tags = followed keeps in
          followed_one (flush_by a m ∷ flush_by b n ∷ []) (first_only (entry_by p q ∷ entry_by r s ∷ [])) (two_turns second)
          (λ place none. follows_each (0 == place) (flush, tag_of a m 0) (flush, tag_of b n 0) (entry_by p q) (entry_by r s) tags.0 tags.1);
      answered = λ keeps client. none_complete (entries_of client (flush_by a m ∷ flush_by b n ∷ [])) 0 refl;
      put = λ keeps client. none_out losses (entries_of client (flush_by a m ∷ flush_by b n ∷ [])) 0 refl;
      after = λ keeps client request early. absurd (omega (arith, early));
      moments = λ keeps place. moments_each (0 == place) (entry_by p q) (entry_by r s) refl refl;
      placed = λ keeps place k e at.
          let here = first_there (entry_by p q ∷ entry_by r s ∷ []) place k e at in
          subst (λ (i : ℕ). WasTaken (tag_in e) (before (serves i) k (two_turns second))) here.0
          (taken_each (entry_by p q) (entry_by r s) k e (two_turns second) first_taken second_taken here.1);
      unanswered = λ keeps place k e at reply became. absurd (true≢false (ap is_reply (waits (tag_in e) (outcomes.Reply reply) became)));
    }

-- the first command that was sent is the first command of client 0
first_sent : (es : Log) (sent : List Tagged) → AreSentBy one_home 0 one_server two_text 0 [] (takes_one ∷ es) sent → slice_get (tags_of sent) 0 ≡ Some (tag_of 0 0 0)
first_sent es sent h =
    let first : h.0 ≡ (flush, tag_of 0 0 0) ∷ [] = elim h.2 [
      | inl own ↦
          let takes = own.1 in
          let asked : takes.what ≡ flush_asked = same_Some takes.what flush_asked (sym takes.sent ∙ ap (λ (ts : List Parsed). slice_get ts 0) two_read) in
          takes.routed ∙ ap₂ (λ (ring : RingState) (what : Parsed). commands_from 0 0 0 0 (route_of_taken ring what)) takes.then asked
      | inr other ↦ absurd (other.0 refl)
    ] in
    ap (λ (cs : List Tagged). slice_get (tags_of cs) 0) (h.4 ∙ ap (λ (cs : List Tagged). cs ++ h.1) first)

strays : (es : Log) (d : Entry) (more : List Entry) → (tag_in d ≡ tag_of 0 0 0 → ⊥) → FollowsProxy one_home 0 one_server two_text (takes_one ∷ es) 0 (d ∷ more) → ⊥
strays es d more differ h =
    differ (same_Some (tag_in d) (tag_of 0 0 0) (ap (λ (ts : List Tag). slice_get ts 0) h.3 ∙ first_sent es h.0 h.2))

-- a run of these in which the first entry is not of the first command
abbrev Stray : Clause → Type 0
Stray one = Allows one (λ home ring opening texts outs histories log. (number_of (drops 0 0) log ≡ 0) × (FollowsProxy home 0 ring texts log 0 (histories 0) → ⊥))

stray : (one : Clause) (a m b n p q r s second : ℕ)
    → ((losses : Losses) → AccountsBut one one_home losses one_server a_cache (flush_by a m ∷ flush_by b n ∷ []) two_text (λ _. []) (first_only (entry_by p q ∷ entry_by r s ∷ [])) (two_turns second))
    → (tag_of p q 0 ≡ tag_of 0 0 0 → ⊥) → Stray one
stray one a m b n p q r s second but differ losses = (
  one_home,
  one_server,
  a_cache,
  two_text,
  λ _. [],
  first_only (entry_by p q ∷ entry_by r s ∷ []),
  two_turns second,
  (flush_by a m ∷ flush_by b n ∷ [], but losses),
  (refl, strays (Happened (ProxyTurn second) ∷ serves_one ∷ serves_one ∷ []) (entry_by p q) (entry_by r s ∷ []) differ),
)

-- two entries that are each legal for a flush
legal_two : (order : Order) (p q r s : ℕ) → command_at order (tag_of p q 0) ≡ Some (to_place 0 flush) → command_at order (tag_of r s 0) ≡ Some (to_place 0 flush)
    → IsLegal order 0 a_cache (entry_by p q ∷ entry_by r s ∷ [])
legal_two order p q r s first second = (
  flush,
  first,
  record { legal = λ h. absurd (false≢true h); refused = refl; reply = refl },
  (flush, second, record { legal = λ h. absurd (false≢true h); refused = refl; reply = refl }, tt),
)

-- two clients of one request each have it numbered
numbered_each : (v w : Bool) (x y : TakenRequest) → x.request ≡ 0 → y.request ≡ 0 → (v ≡ true → w ≡ true → ⊥)
    → AreInOrder (if v then x ∷ (if w then y ∷ [] else []) else (if w then y ∷ [] else []))
numbered_each true true x y first second apart = absurd (apart refl refl)
numbered_each true false x y first second apart = ap (λ (n : ℕ). n ∷ []) first
numbered_each false true x y first second apart = ap (λ (n : ℕ). n ∷ []) second
numbered_each false false x y first second apart = refl

own_at : (number client : ℕ) → (number == client) ≡ true → number ≡ client
own_at number client h = grind (arith, false≢true, eqb_tells)

numbered_two : (a b client : ℕ) → (a ≡ b → ⊥) → AreInOrder (entries_of client (flush_by a 0 ∷ flush_by b 0 ∷ []))
numbered_two a b client apart =
    numbered_each (a == client) (b == client) (flush_by a 0) (flush_by b 0) refl refl (λ first second. apart (own_at a client first ∙ sym (own_at b client second)))

apart_two : ◌≡◌ {A = ℕ} 0 1 → ⊥
apart_two same = omega (arith, same)

other_client : tag_of 1 0 0 ≡ tag_of 0 0 0 → ⊥
other_client same = (let number : 1 ≡ 0 = ap (λ (t : Tag). t.session) same in omega (arith, number))

other_request : tag_of 0 1 0 ≡ tag_of 0 0 0 → ⊥
other_request same = (let number : 1 ≡ 0 = ap (λ (t : Tag). t.request) same in omega (arith, number))

-- the server takes the command of the second client first
pub without_followed : Stray Followed
without_followed = stray Followed 0 0 1 0 1 0 0 0 1
    (λ losses. stray_but Followed losses 0 0 1 0 1 0 0 0 1 (λ keeps. refl) (λ keeps client. numbered_two 0 1 client apart_two) (λ keeps. absurd (keeps refl))
    (legal_two (flush_by 0 0 ∷ flush_by 1 0 ∷ []) 1 0 0 0 refl refl) other_client (omega arith) (omega arith)) other_client

-- the order has that command first, and the log has the other turn first
pub without_turns_in_order : Stray Turns
without_turns_in_order = stray Turns 1 0 0 0 1 0 0 0 1
    (λ losses. stray_but Turns losses 1 0 0 0 1 0 0 0 1 (λ keeps. absurd (keeps refl)) (λ keeps client. numbered_two 1 0 client (λ same. apart_two (sym same))) (λ keeps. (refl, refl))
    (legal_two (flush_by 1 0 ∷ flush_by 0 0 ∷ []) 1 0 0 0 refl refl) other_client (omega arith) (omega arith)) other_client

-- the order numbers the requests of a client in reverse order
pub without_numbered : Stray Numbered
without_numbered = stray Numbered 0 1 0 0 0 1 0 0 0
    (λ losses. stray_but Numbered losses 0 1 0 0 0 1 0 0 0 (λ keeps. refl) (λ keeps. absurd (keeps refl)) (λ keeps. (refl, refl))
    (legal_two (flush_by 0 1 ∷ flush_by 0 0 ∷ []) 0 1 0 0 refl refl) other_request (omega arith) (omega arith)) other_request
