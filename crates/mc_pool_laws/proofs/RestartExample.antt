-- A run in which a server restarts: a client stores an item, and does not find it afterwards.
use Rattle.std.proofs.Common.{◌≡◌, ◌∙◌, ℕ, zero, suc, ◌<◌, ◌==◌, ◌⊎◌, inl, inr, Bool, true, false, if◌then◌else◌, List, [], ◌∷◌, ◌++◌, length, map, take, drop, Some, slice_get, refl, sym, ap, ap₂, subst, arith}
use Rattle.std.specs.Prelude.{codes}
use Rattle.std.specs.Fmt.{digits}
use Rattle.std.specs.List.{list_all}
use Rattle.std.proofs.lemmas.Bool.{false≢true, true≢false}
use Rattle.std.proofs.lemmas.List.Elements.{All-cons, All-nil}
use Rattle.std.proofs.lemmas.Option.{same_Some}
use Rattle.mc_text.specs.Lines.{first_line, line_end}
use Rattle.mc_text.specs.Words.{words}
use Rattle.mc_request.specs.Names.{name_of}
use Rattle.mc_request.specs.Requests.{next_request, requests_of, requests_within}
use Rattle.mc_request.specs.declared.parts.Atom.{Atom}
use Rattle.mc_request.specs.declared.parts.Parsed.{Parsed}
use Rattle.mc_reply.specs.Spelling.{spelling_of}
use Rattle.mc_reply.specs.declared.replies.Reply.{Reply as AReply}
use Rattle.mc_reply.specs.declared.replies.Reply.TheVariants.{Miss, Stored}
use Rattle.mc_ring.specs.Rings.{RingState}
use Rattle.mc_route.specs.Routes.{route_of_taken, to_owner, to_place}
use Rattle.mc_route.specs.declared.losses.Losses.{Losses}
use Rattle.mc_route.specs.declared.losses.Losses.TheVariants.{Told}
use Rattle.mc_route.specs.declared.outcomes.Outcome.{Outcome}
use Rattle.mc_route.specs.declared.outcomes.Outcome.TheVariants as outcomes
use Rattle.mc_route.specs.declared.routes.Routed.{Routed}
use Rattle.mc_link.specs.declared.turns.Tag.{Tag}
use Rattle.mc_cache.specs.CacheState.{opening_cache}
use Rattle.mc_cache.specs.Step.{step_of}
use Rattle.mc_account.specs.Lookups.{IsBefore, asked_at, command_at, outcome_at}
use Rattle.mc_account.specs.Orders.{AreInOrder, IsSized, Order, TakenRequest, is_complete}
use Rattle.mc_world.specs.declared.events.Event.TheVariants.{ServerTurn}
use Rattle.mc_world.specs.Accounts.{Account, Accounts, NotAnswered, WasNeverSentOrLost, WasTaken}
use Rattle.mc_world.specs.Logs.{IsRingAfter, Log, before, in_life, number_of, puts, serves, taken_before, takes}
use Rattle.mc_world.specs.declared.logs.Logged.TheVariants.{Happened, Restarted}
use Rattle.mc_world.proofs.Log.LifeLemmas.{taken_past}
use Rattle.mc_history.specs.declared.entries.Entry.{Entry}
use Rattle.mc_history.specs.Histories.{HasReply, IsLegal, tag_in}
use Rattle.mc_pool_laws.specs.Sent.{IsReplayed}
use Rattle.mc_pool_laws.proofs.MissExample.{commands_of as one_command, entry_as, get_asked, get_key, in_two, key, nothing_read, outcome_of, owned, set_asked, set_key, stored}
use Rattle.mc_pool_laws.proofs.NeedLemmas.{a_cache, first_only, first_there, followed_one, follows_lost, is_lost, loses_one, none_there, one_home, one_server, outcome_in_request, outs_of, own_by, puts_one, returns_one, serves_one, takes_one}
use Rattle.mc_pool_laws.proofs.SentLemmas.{in_request, sent_command}

-- what the client sends, and how it is read
abbrev pub restart_text : ℕ → List ℕ
restart_text client = if 0 == client then codes "set k 0 0 1\r\nv\r\nget k\r\n" else []

text_read : requests_of (codes "set k 0 0 1\r\nv\r\nget k\r\n") ≡ set_asked ∷ get_asked ∷ []
unfolding words line_end first_line name_of next_request requests_within requests_of
text_read = refl

-- the requests that were taken, and their replies
abbrev asked_as : ℕ → Parsed → AReply (List ℕ) → TakenRequest
asked_as request what reply =
    record { session = 0; request = request; what = what; ring = one_server; losses = Told; outcomes = outcomes.Reply reply ∷ [] }

abbrev first : TakenRequest
first = asked_as 0 set_asked Stored

abbrev second : TakenRequest
second = asked_as 1 get_asked Miss

abbrev pub restart_order : Order
restart_order = first ∷ second ∷ []

-- the entries of the server in both its lives
abbrev missed : Entry
missed = record { client = 0; request = 1; atom = 0; moment = 5; refused = false; reply = spelling_of get_key Miss }

abbrev pub restart_history : List Entry
restart_history = stored ∷ missed ∷ []

abbrev pub restart_log : Log
restart_log =
    takes_one ∷ serves_one ∷ puts_one ∷ loses_one ∷ Restarted 0 ∷ returns_one ∷ takes_one ∷ Happened (ServerTurn 0 0 2 5) ∷ puts_one ∷ []

-- the requests of a client in it
abbrev mine : Bool → Order
mine v = if v then first ∷ (if v then second ∷ [] else []) else (if v then second ∷ [] else [])

abbrev many : Bool → ℕ
many v = if v then suc (if v then suc 0 else 0) else (if v then suc 0 else 0)

mine_by : (v : Bool) (k : ℕ) (x : TakenRequest) → slice_get (mine v) k ≡ Some x → (v ≡ true) × (slice_get restart_order k ≡ Some x)
mine_by true k x at = (refl, at)
mine_by false k x at = absurd (none_there k x at)

-- which of the two it is
abbrev IsOne : ℕ → TakenRequest → Type 0
IsOne request x = ((request ≡ 0) × (x ≡ first)) ⊎ ((request ≡ 1) × (x ≡ second))

asked_two : (client request : ℕ) (x : TakenRequest) → asked_at restart_order client request ≡ Some x → (0 ≡ client) × IsOne request x
asked_two client request x at =
    let own = mine_by (0 == client) request x at in
    (own_by client own.0, in_two first second request x own.1)

asked_text : (v : Bool) → (untaken : List Parsed) × (map (λ (e : TakenRequest). e.what) (mine v) ++ untaken
    ≡ requests_of (if v then codes "set k 0 0 1\r\nv\r\nget k\r\n" else []))
asked_text true = ([], sym text_read)
asked_text false = ([], sym nothing_read)

complete_by : (v : Bool) → list_all is_complete (take (many v) (mine v)) ≡ true
complete_by true = refl
complete_by false = refl

numbered_by : (v : Bool) → AreInOrder (mine v)
numbered_by true = refl
numbered_by false = refl

after_by : (v : Bool) (request : ℕ) → request < many v → (v ≡ true) × ((request ≡ 0) ⊎ (request ≡ 1))
after_by true zero early = (refl, inl refl)
after_by true (suc zero) early = (refl, inr refl)
after_by true (suc (suc n)) early = absurd (omega (arith, early))
after_by false n early = absurd (omega (arith, early))

abbrev WasEarly : ℕ → ℕ → Type 0
WasEarly client request = request < number_of (takes client) (before (puts client) request restart_log)

after_two : (client request : ℕ) → request < number_of (puts client) restart_log → WasEarly client request
after_two client request early =
    let own = after_by (0 == client) request early in
    subst (λ (c : ℕ). WasEarly c request) (own_by client own.0) (elim own.1 [
      | inl is ↦ subst (λ (n : ℕ). WasEarly 0 n) (sym is) (omega arith)
      | inr is ↦ subst (λ (n : ℕ). WasEarly 0 n) (sym is) (omega arith)
    ])

-- each is routed by the ring, which stays
abbrev IsRouted : ℕ → ℕ → TakenRequest → Type 0
IsRouted client request x = IsRingAfter 0 one_server (before (takes client) request restart_log) x.ring

rings_by : (client request : ℕ) (x : TakenRequest) → asked_at restart_order client request ≡ Some x → IsRouted client request x
rings_by client request x at =
    let o = asked_two client request x at in
    subst (λ (c : ℕ). IsRouted c request x) o.0 (elim o.1 [
      | inl h ↦ subst (λ (n : ℕ). IsRouted 0 n x) (sym h.0) (subst (λ (y : TakenRequest). IsRouted 0 0 y) (sym h.1) refl)
      | inr h ↦ subst (λ (n : ℕ). IsRouted 0 n x) (sym h.0) (subst (λ (y : TakenRequest). IsRouted 0 1 y) (sym h.1) refl)
    ])

-- the request of a tag, its command and its outcome
record Known (tag : Tag) (place : ℕ) (atom : Atom (List ℕ)) (outcome : Outcome) : Type 0 where
  pub own : 0 ≡ tag.session
  pub asked : TakenRequest
  pub which : IsOne tag.request asked
  pub command : slice_get (route_of_taken asked.ring asked.what) tag.atom ≡ Some (to_place place atom)
  pub became : slice_get asked.outcomes tag.atom ≡ Some outcome

known : (tag : Tag) (place : ℕ) (atom : Atom (List ℕ)) (outcome : Outcome) → command_at restart_order tag ≡ Some (to_place place atom)
    → outcome_at restart_order tag ≡ Some outcome → Known tag place atom outcome
known tag place atom outcome at became =
    let asked = in_request (asked_at restart_order tag.session tag.request) tag.atom (to_place place atom) at in
    let o = asked_two tag.session tag.request asked.0 asked.1 in
    let told = outcome_in_request (asked_at restart_order tag.session tag.request) tag.atom outcome became in
    let same : told.0 ≡ asked.0 = same_Some told.0 asked.0 (sym told.1 ∙ asked.1) in
    record {
      own = o.0;
      asked = asked.0;
      which = o.1;
      command = asked.2;
      became = ap (λ (x : TakenRequest). slice_get x.outcomes tag.atom) (sym same) ∙ told.2;
    }

-- its replies are in the history, and no command is lost
replied_by : (tag : Tag) (place : ℕ) (atom : Atom (List ℕ)) (reply : AReply (List ℕ)) → command_at restart_order tag ≡ Some (to_place place atom)
    → outcome_at restart_order tag ≡ Some (outcomes.Reply reply) → HasReply (first_only restart_history place) tag (spelling_of atom reply)
replied_by tag place atom reply at became =
    let k = known tag place atom (outcomes.Reply reply) at became in
    elim k.which [
      | inl h ↦ entry_as restart_history tag place 0 0 stored set_key Stored atom reply refl k.own h.0 refl refl
          (one_command k.asked set_key tag.atom (to_place place atom) (ap (λ (x : TakenRequest). route_of_taken x.ring x.what) h.1) k.command)
          (outcome_of k.asked first (outcomes.Reply Stored) (outcomes.Reply reply) tag.atom h.1 refl k.became)
      | inr h ↦ entry_as restart_history tag place 1 1 missed get_key Miss atom reply refl k.own h.0 refl refl
          (one_command k.asked get_key tag.atom (to_place place atom) (ap (λ (x : TakenRequest). route_of_taken x.ring x.what) h.1) k.command)
          (outcome_of k.asked second (outcomes.Reply Miss) (outcomes.Reply reply) tag.atom h.1 refl k.became)
    ]

lost_by : (tag : Tag) (place : ℕ) (atom : Atom (List ℕ)) → command_at restart_order tag ≡ Some (to_place place atom)
    → outcome_at restart_order tag ≡ Some outcomes.Lost → WasNeverSentOrLost one_home place tag (first_only restart_history place) restart_log
lost_by tag place atom at became =
    let k = known tag place atom outcomes.Lost at became in
    elim k.which [
      | inl h ↦ absurd (true≢false (ap is_lost (outcome_of k.asked first (outcomes.Reply Stored) outcomes.Lost tag.atom h.1 refl k.became)))
      | inr h ↦ absurd (true≢false (ap is_lost (outcome_of k.asked second (outcomes.Reply Miss) outcomes.Lost tag.atom h.1 refl k.became)))
    ]

-- the entries of its first life, of its second, and of no other
nothing_left : {X : Type 0} (n m : ℕ) → ◌≡◌ {A = List X} (drop n (take m [])) []
nothing_left zero zero = refl
nothing_left zero (suc m) = refl
nothing_left (suc n) zero = refl
nothing_left (suc n) (suc m) = refl

first_lives : (life : ℕ) → IsLegal restart_order 0 a_cache (in_life 0 life restart_log restart_history)
first_lives zero = (
  set_key,
  ap (λ (p : ℕ). Some (to_place p set_key)) owned,
  record { legal = λ h. absurd (false≢true h); refused = refl; reply = refl },
  tt,
)
first_lives (suc zero) = (
  get_key,
  ap (λ (p : ℕ). Some (to_place p get_key)) owned,
  record { legal = λ h. absurd (false≢true h); refused = refl; reply = refl },
  tt,
)
first_lives (suc (suc life)) =
    let none : in_life 0 (suc (suc life)) restart_log restart_history ≡ [] =
    ap₂ (λ (n m : ℕ). drop n (take m restart_history)) (taken_past 0 (suc life) restart_log (omega arith)) (taken_past 0 (suc (suc life)) restart_log (omega arith)) in
    subst (λ (es : List Entry). IsLegal restart_order 0 a_cache es) (sym none) tt

lives_by : (place life : ℕ) → IsLegal restart_order place a_cache (in_life place life restart_log (first_only restart_history place))
lives_by place life =
    (elim (0 == place) as (λ v. (0 == place) ≡ v → IsLegal restart_order place a_cache (in_life place life restart_log (if v then restart_history else []))) [
      | true ↦ λ own. subst (λ (p : ℕ). IsLegal restart_order p a_cache (in_life p life restart_log restart_history)) (own_by place own) (first_lives life)
      | false ↦ λ other.
          let none : in_life place life restart_log [] ≡ [] = nothing_left (taken_before place life restart_log) (taken_before place (suc life) restart_log) in
          subst (λ (es : List Entry). IsLegal restart_order place a_cache es) (sym none) tt
    ]) refl

-- its entries are of two commands, in their order
abbrev IsAt : ℕ → Entry → Type 0
IsAt k e = ((k ≡ 0) × (e ≡ stored)) ⊎ ((k ≡ 1) × (e ≡ missed))

once_by : (j k : ℕ) (d e : Entry) → IsAt j d → IsAt k e → tag_in d ≡ tag_in e → j ≡ k
once_by j k d e (inl h) (inl g) same = h.0 ∙ sym g.0
once_by j k d e (inr h) (inr g) same = h.0 ∙ sym g.0
once_by j k d e (inl h) (inr g) same =
    let number : 0 ≡ 1 = sym (ap (λ (x : Entry). x.request) h.1) ∙ ap (λ (t : Tag). t.request) same ∙ ap (λ (x : Entry). x.request) g.1 in
    absurd (omega (arith, number))
once_by j k d e (inr h) (inl g) same =
    let number : 1 ≡ 0 = sym (ap (λ (x : Entry). x.request) h.1) ∙ ap (λ (t : Tag). t.request) same ∙ ap (λ (x : Entry). x.request) g.1 in
    absurd (omega (arith, number))

before_by : (j k : ℕ) (d e : Entry) → IsAt j d → IsAt k e → j < k → IsBefore (tag_in d) (tag_in e)
before_by j k d e (inl h) (inr g) less =
    let mine : d.request ≡ 0 = ap (λ (x : Entry). x.request) h.1 in
    let other : e.request ≡ 1 = ap (λ (x : Entry). x.request) g.1 in
    inl (omega (arith, mine, other))
before_by j k d e (inl h) (inl g) less = absurd (omega (arith, less, h.0, g.0))
before_by j k d e (inr h) (inl g) less = absurd (omega (arith, less, h.0, g.0))
before_by j k d e (inr h) (inr g) less = absurd (omega (arith, less, h.0, g.0))

abbrev IsPlacedAt : ℕ → Entry → Type 0
IsPlacedAt k e = WasTaken (tag_in e) (before (serves 0) k restart_log) × NotAnswered (tag_in e) (before (serves 0) k restart_log)

placed_by : (k : ℕ) (e : Entry) → IsAt k e → IsPlacedAt k e
placed_by k e (inl h) = subst (λ (n : ℕ). IsPlacedAt n e) (sym h.0) (subst (λ (x : Entry). IsPlacedAt 0 x) (sym h.1) (omega arith, omega arith))
placed_by k e (inr h) = subst (λ (n : ℕ). IsPlacedAt n e) (sym h.0) (subst (λ (x : Entry). IsPlacedAt 1 x) (sym h.1) (omega arith, omega arith))

moments_by : (v : Bool) → map (λ (e : Entry). e.moment) (if v then restart_history else []) ≡ (if v then 5 ∷ [] else []) ++ ((if v then 5 ∷ [] else []) ++ [])
moments_by true = refl
moments_by false = refl

pub restart_accounts : (losses : Losses) → Accounts one_home losses one_server a_cache restart_order restart_text (outs_of losses restart_order restart_log)
    (first_only restart_history) restart_log
restart_accounts losses = record {
  asked = λ client. asked_text (0 == client);
  turns = refl;
  numbered = λ client. numbered_by (0 == client);
  rings = rings_by;
  sized = All-cons IsSized first (second ∷ []) refl (All-cons IsSized second [] refl (All-nil IsSized));
  legal = lives_by;
  once = λ r s j k d e at also same.
      let here = first_there restart_history r j d at in
      let there = first_there restart_history s k e also in
      (sym here.0 ∙ there.0, once_by j k d e (in_two stored missed j d here.1) (in_two stored missed k e there.1) same);
  replied = replied_by;
  lost = lost_by;
  ordered = λ place j k d e r q at also less same first_reply second_reply.
      before_by j k d e (in_two stored missed j d (first_there restart_history place j d at).1)
      (in_two stored missed k e (first_there restart_history place k e also).1) less;
  followed = followed_one restart_order (first_only restart_history) restart_log (λ place none. follows_lost (0 == place) restart_history _ none);
  answered = λ client. complete_by (0 == client);
  put = λ client. refl;
  after = after_two;
  moments = λ place. moments_by (0 == place);
  placed = λ place k e at.
      let here = first_there restart_history place k e at in
      let there = placed_by k e (in_two stored missed k e here.1) in (
        subst (λ (p : ℕ). WasTaken (tag_in e) (before (serves p) k restart_log)) here.0 there.0,
        λ reply became. subst (λ (p : ℕ). NotAnswered (tag_in e) (before (serves p) k restart_log)) here.0 there.1,
      );
}

-- the answers to the client
pub restart_answers : (losses : Losses) → outs_of losses restart_order restart_log 0 ≡ codes "STORED\r\nEND\r\n"
restart_answers losses = refl

-- one cache would find the item
sent_first : (atom : Atom (List ℕ)) → command_at restart_order (tag_in stored) ≡ Some (to_place 0 atom) → set_key ≡ atom
sent_first atom at = ap (λ (c : Routed). c.atom) (same_Some (to_owner one_server key set_key) (to_place 0 atom) at)

sent_second : (atom : Atom (List ℕ)) → command_at restart_order (tag_in missed) ≡ Some (to_place 0 atom) → get_key ≡ atom
sent_second atom at = ap (λ (c : Routed). c.atom) (same_Some (to_owner one_server key get_key) (to_place 0 atom) at)

found : missed.reply ≡ spelling_of get_key (step_of (step_of a_cache set_key 5 false).0 get_key 5 false).1 → ⊥
unfolding digits
found told = let size : 5 ≡ 21 = ap (λ (bytes : List ℕ). length bytes) told in omega (arith, size)

not_replayed : (losses : Losses) → IsReplayed one_home one_server restart_text restart_log 0 a_cache restart_history → ⊥
not_replayed losses replayed =
    let outs : ℕ → List ℕ = outs_of losses restart_order restart_log in
    let first_is : set_key ≡ replayed.0 =
    sent_first replayed.0 (sent_command one_home losses one_server a_cache restart_order restart_text outs (first_only restart_history) restart_log (restart_accounts losses)
    (tag_in stored) (to_place 0 replayed.0) replayed.1) in
    let second_is : get_key ≡ replayed.3.0 =
    sent_second replayed.3.0 (sent_command one_home losses one_server a_cache restart_order restart_text outs (first_only restart_history) restart_log (restart_accounts losses)
    (tag_in missed) (to_place 0 replayed.3.0) replayed.3.1) in
    found
    (subst (λ (a : Atom (List ℕ)). missed.reply ≡ spelling_of get_key (step_of (step_of a_cache a 5 false).0 get_key 5 false).1) (sym first_is)
    (subst (λ (a : Atom (List ℕ)). missed.reply ≡ spelling_of a (step_of (step_of a_cache replayed.0 5 false).0 a 5 false).1) (sym second_is) replayed.3.2.reply))

pub stored_and_missed : (losses : Losses) → (ring : RingState) × (outs : ℕ → List ℕ) × (histories : ℕ → List Entry) × (log : Log)
    × Account one_home losses ring (opening_cache 1000 10 0) (λ client. if 0 == client then codes "set k 0 0 1\r\nv\r\nget k\r\n" else []) outs histories log
    × (outs 0 ≡ codes "STORED\r\nEND\r\n")
    × (IsReplayed one_home ring (λ client. if 0 == client then codes "set k 0 0 1\r\nv\r\nget k\r\n" else []) log 0 (opening_cache 1000 10 0) (histories 0) → ⊥)
stored_and_missed losses = (
  one_server,
  outs_of losses restart_order restart_log,
  first_only restart_history,
  restart_log,
  (restart_order, restart_accounts losses),
  restart_answers losses,
  not_replayed losses,
)
