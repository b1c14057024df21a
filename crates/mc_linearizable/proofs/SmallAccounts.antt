-- Small accounts: of one proxy and one client, whose requests have one command each, and of two servers at most. What must be shown of each request and each
-- entry is listed in sequence.
use Rattle.std.proofs.Common.{◌≡◌, ◌∙◌, ℕ, zero, suc, ◌+◌, ◌<◌, ◌≤◌, ◌==◌, ◌⊎◌, inl, inr, Bool, true, false, if◌then◌else◌, List, [], ◌∷◌, ◌++◌, length, map, take, drop, append-nil, All, None, Some, slice_get, refl, sym, ap, ap₂, subst, arith}
use Rattle.std.specs.Prelude.{codes, pos}
use Rattle.std.specs.List.{AllByRecursion, list_all}
use Rattle.std.proofs.lemmas.Bool.{eqb-true}
use Rattle.std.proofs.lemmas.List.Elements.{All-cons, All-nil}
use Rattle.std.proofs.lemmas.Option.{same_Some}
use Rattle.mc_request.specs.Requests.{requests_of}
use Rattle.mc_request.specs.declared.parts.Atom.{Atom}
use Rattle.mc_request.specs.declared.parts.Atom.TheVariants as atoms
use Rattle.mc_request.specs.declared.parts.Request.TheVariants as requests
use Rattle.mc_request.specs.declared.parts.StoreMode.TheVariants.{Set}
use Rattle.mc_request.specs.declared.parts.Parsed.{Parsed}
use Rattle.mc_request.specs.declared.parts.Parsed.TheVariants.{Whole}
use Rattle.mc_request.specs.declared.parts.Update.TheVariants.{Store}
use Rattle.mc_reply.specs.Spelling.{spelling_of}
use Rattle.mc_reply.specs.declared.replies.Reply.{Reply as AReply}
use Rattle.mc_ring.specs.Rings.{IsRing, RingState}
use Rattle.mc_ring.specs.declared.points.Point.{Point}
use Rattle.mc_route.specs.Routes.{route_of_taken, to_owner, to_place}
use Rattle.mc_route.specs.declared.losses.Losses.{Losses}
use Rattle.mc_route.specs.declared.losses.Losses.TheVariants.{Told}
use Rattle.mc_route.specs.declared.outcomes.Outcome.{Outcome}
use Rattle.mc_route.specs.declared.outcomes.Outcome.TheVariants as outcomes
use Rattle.mc_route.specs.declared.routes.Routed.{Routed}
use Rattle.mc_link.specs.declared.turns.Tag.{Tag}
use Rattle.mc_proxy.specs.Sending.{tag_of}
use Rattle.mc_cache.specs.CacheState.{CacheState}
use Rattle.mc_account.specs.Lookups.{asked_at, command_at, outcome_at}
use Rattle.mc_account.specs.Orders.{AreInOrder, IsSized, Order, TakenRequest, commands_to, entries_of, is_complete}
use Rattle.mc_world.specs.declared.events.Event.TheVariants.{Emit}
use Rattle.mc_world.specs.Accounts.{Accounts, TakenBeforeAnswered}
use Rattle.mc_world.specs.Logs.{IsRingAfter, Log, before, drops, in_life, moments_of, number_of, puts, taken_before, takes, turns_of}
use Rattle.mc_world.specs.declared.logs.Logged.{Logged}
use Rattle.mc_world.specs.declared.logs.Logged.TheVariants.{Happened}
use Rattle.mc_history.specs.declared.entries.Entry.{Entry}
use Rattle.mc_history.specs.Histories.{IsLegal, tag_in}
use Rattle.mc_history.specs.Named.{tags_of}
use Rattle.mc_pool_laws.specs.Outcomes.{HasOutcomeBy}
use Rattle.mc_pool_laws.proofs.MissExample.{nothing_read, owned}
use Rattle.mc_pool_laws.proofs.NeedLemmas.{followed_one, none_there, one_here, one_home, one_server, outcome_in_request, outs_of}
use Rattle.mc_pool_laws.proofs.OrderExample.{tag_is}
use Rattle.mc_pool_laws.proofs.SentLemmas.{in_request}

-- commands on key `k`, the requests, and the entries of a server
abbrev pub store_of : List ℕ → Atom (List ℕ)
store_of value = atoms.Update (Store Set None (codes "k") 0 (pos 0) value)

abbrev pub store_asked : List ℕ → Parsed
store_asked value = Whole (requests.Update (Store Set None (codes "k") 0 (pos 0) value) false)

abbrev pub asked_of : RingState → ℕ → Parsed → Outcome → TakenRequest
asked_of ring request what outcome = record { session = 0; request = request; what = what; ring = ring; losses = Told; outcomes = outcome ∷ [] }

abbrev pub entry_of : ℕ → Atom (List ℕ) → AReply (List ℕ) → Entry
entry_of request atom reply = record { client = 0; request = request; atom = 0; moment = 5; refused = false; reply = spelling_of atom reply }

-- whether this emits an answer, all of which are for client 0, by whether that is the client
abbrev pub puts_if : Bool → Logged → Bool
puts_if own (Happened (Emit of)) = own
puts_if own other = false

-- the only server of a ring owns the key
pub one_ring : IsRing one_server
one_ring = record {
  some = omega arith;
  few = omega arith;
  apart = refl;
  pointed = omega arith;
  rising = λ i j d less inside. absurd (omega (arith, less, inside));
  inside = All-cons (λ (p : Point). p.place < 1) (record { point = 0; place = 0 }) [] (omega arith) (All-nil (λ (p : Point). p.place < 1));
}

pub at_first : (atom : Atom (List ℕ)) → Some (to_owner one_server (codes "k") atom) ≡ Some (to_place 0 atom)
at_first atom = ap (λ (p : ℕ). Some (to_place p atom)) owned

pub to_first : (atom : Atom (List ℕ)) → to_owner one_server (codes "k") atom ∷ [] ≡ to_place 0 atom ∷ []
to_first atom = ap (λ (p : ℕ). to_place p atom ∷ []) owned

-- the text of client 0, and the histories of two servers
abbrev pub first_text : List ℕ → ℕ → List ℕ
first_text text client = if 0 == client then text else []

abbrev pub two_histories : List Entry → List Entry → ℕ → List Entry
two_histories first second place = if 0 == place then first else if 1 == place then second else []

-- this holds of each element of a list, by its number, the first of which has this number
abbrev pub Each : {X : Type 0} → (ℕ → X → Type 0) → ℕ → List X → Type 0
Each P n [] = Unit {0}
Each P n (x ∷ xs) = P n x × Each P (suc n) xs

each_at : {X : Type 0} (P : ℕ → X → Type 0) (n : ℕ) (xs : List X) → Each P n xs → (k : ℕ) (x : X) → slice_get xs k ≡ Some x → (m : ℕ) → m ≡ n + k → P m x
each_at P n [] all k x at m is = absurd (none_there k x at)
each_at {X} P n (y ∷ ys) all zero x at m is =
    let here : n ≡ m = omega (arith, is) in
    subst (λ (i : ℕ). P i x) here (subst (λ (z : X). P n z) (same_Some y x at) all.0)
each_at P n (y ∷ ys) all (suc k) x at m is = each_at P (suc n) ys all.1 k x at m (omega (arith, is))

pub each_of : {X : Type 0} (P : ℕ → X → Type 0) (xs : List X) → Each P 0 xs → (k : ℕ) (x : X) → slice_get xs k ≡ Some x → P k x
each_of P xs all k x at = each_at P 0 xs all k x at k (omega arith)

got_within : {X : Type 0} (xs : List X) (k : ℕ) → k < length xs → (x : X) × (slice_get xs k ≡ Some x)
got_within [] k less = absurd (omega (arith, less))
got_within (x ∷ xs) zero less = (x, refl)
got_within (x ∷ xs) (suc k) less = got_within xs k (omega (arith, less))

-- an element that exists for one number alone
there_if : {X : Type 0} (v : Bool) (xs : List X) (k : ℕ) (x : X) → slice_get (if v then xs else []) k ≡ Some x → (v ≡ true) × (slice_get xs k ≡ Some x)
there_if true xs k x at = (refl, at)
there_if false xs k x at = absurd (none_there k x at)

-- a property of two places, and of each other, is one of all places
pub by_place : (P : ℕ → Type 0) → P 0 → P 1 → ((place : ℕ) → (0 == place) ≡ false → (1 == place) ≡ false → P place) → (place : ℕ) → P place
by_place P first second other place =
    (elim (0 == place) as (λ v. (0 == place) ≡ v → P place) [
      | true ↦ λ own. subst P (eqb-true 0 place own) first
      | false ↦ λ differ. (elim (1 == place) as (λ v. (1 == place) ≡ v → P place) [
        | true ↦ λ own. subst P (eqb-true 1 place own) second
        | false ↦ λ neither. other place differ neither
      ]) refl
    ]) refl

pub none_else : (first second : List Entry) (place : ℕ) → (0 == place) ≡ false → (1 == place) ≡ false → two_histories first second place ≡ []
none_else first second place differ neither = ap₂ (λ (v w : Bool). if v then first else if w then second else []) differ neither

pub else_there : (first second : List Entry) (place k : ℕ) (e : Entry) → (0 == place) ≡ false → (1 == place) ≡ false → slice_get (two_histories first second place) k ≡ Some e → ⊥
else_there first second place k e differ neither at =
    none_there k e (subst (λ (es : List Entry). slice_get es k ≡ Some e) (none_else first second place differ neither) at)

pub no_history : (place k : ℕ) (e : Entry) → slice_get (two_histories [] [] place) k ≡ Some e → ⊥
no_history = by_place (λ place. (k : ℕ) (e : Entry) → slice_get (two_histories [] [] place) k ≡ Some e → ⊥) none_there none_there
    (λ place differ neither k e at. else_there [] [] place k e differ neither at)

-- the entries whose replies were taken are in the order of their requests
abbrev pub AreRisen : Order → ℕ → List Entry → Type 0
AreRisen order low [] = Unit {0}
AreRisen order low (e ∷ es) =
    (((reply : AReply (List ℕ)) → outcome_at order (tag_in e) ≡ Some (outcomes.Reply reply) → ⊥) × AreRisen order low es)
    ⊎ ((low ≤ e.request) × AreRisen order (suc e.request) es)

risen_low : (order : Order) (low : ℕ) (es : List Entry) → AreRisen order low es → (k : ℕ) (e : Entry) (r : AReply (List ℕ)) → slice_get es k ≡ Some e
    → outcome_at order (tag_in e) ≡ Some (outcomes.Reply r) → low ≤ e.request
risen_low order low [] risen k e r at became = absurd (none_there k e at)
risen_low order low (x ∷ xs) (inl gone) zero e r at became =
    absurd (gone.0 r (ap (λ (y : Entry). outcome_at order (tag_in y)) (same_Some x e at) ∙ became))
risen_low order low (x ∷ xs) (inl gone) (suc k) e r at became = risen_low order low xs gone.1 k e r at became
risen_low order low (x ∷ xs) (inr next) zero e r at became =
    let is : x.request ≡ e.request = ap (λ (y : Entry). y.request) (same_Some x e at) in
    let from : low ≤ x.request = next.0 in
    omega (arith, from, is)
risen_low order low (x ∷ xs) (inr next) (suc k) e r at became =
    let past : suc x.request ≤ e.request = risen_low order (suc x.request) xs next.1 k e r at became in
    let from : low ≤ x.request = next.0 in
    omega (arith, from, past)

risen_two : (order : Order) (low : ℕ) (es : List Entry) → AreRisen order low es → (j k : ℕ) (d e : Entry) (r q : AReply (List ℕ)) → slice_get es j ≡ Some d → slice_get es k ≡ Some e
    → j < k → outcome_at order (tag_in d) ≡ Some (outcomes.Reply r) → outcome_at order (tag_in e) ≡ Some (outcomes.Reply q) → d.request < e.request
risen_two order low [] risen j k d e r q at also less first second = absurd (none_there j d at)
risen_two order low (x ∷ xs) risen j zero d e r q at also less first second = absurd (omega (arith, less))
risen_two order low (x ∷ xs) (inl gone) zero (suc k) d e r q at also less first second =
    absurd (gone.0 r (ap (λ (y : Entry). outcome_at order (tag_in y)) (same_Some x d at) ∙ first))
risen_two order low (x ∷ xs) (inr next) zero (suc k) d e r q at also less first second =
    let is : x.request ≡ d.request = ap (λ (y : Entry). y.request) (same_Some x d at) in
    let past : suc x.request ≤ e.request = risen_low order (suc x.request) xs next.1 k e q also second in
    omega (arith, is, past)
risen_two order low (x ∷ xs) (inl gone) (suc j) (suc k) d e r q at also less first second =
    risen_two order low xs gone.1 j k d e r q at also (omega (arith, less)) first second
risen_two order low (x ∷ xs) (inr next) (suc j) (suc k) d e r q at also less first second =
    risen_two order (suc x.request) xs next.1 j k d e r q at also (omega (arith, less)) first second

-- what is known of a request: its one command, and the outcome of that
pub record IsKnown (histories : ℕ → List Entry) (log : Log) (k : ℕ) (x : TakenRequest) : Type 0 where
  pub place : ℕ
  pub atom : Atom (List ℕ)
  pub outcome : Outcome
  pub routed : route_of_taken x.ring x.what ≡ to_place place atom ∷ []
  pub became : x.outcomes ≡ outcome ∷ []
  pub told : HasOutcomeBy one_home histories log (tag_of 0 k 0) (to_place place atom) outcome

-- the entry of its command gives the outcome, if its reply was taken
pub replied_as : (histories : ℕ → List Entry) (log : Log) (k : ℕ) (x : TakenRequest) (place : ℕ) (atom : Atom (List ℕ)) (reply : AReply (List ℕ)) (n : ℕ) (e : Entry)
    → route_of_taken x.ring x.what ≡ to_place place atom ∷ [] → x.outcomes ≡ outcomes.Reply reply ∷ [] → slice_get (histories place) n ≡ Some e
    → tag_in e ≡ tag_of 0 k 0 → e.reply ≡ spelling_of atom reply → IsKnown histories log k x
replied_as histories log k x place atom reply n e routed became at whose says =
    record { place = place; atom = atom; outcome = outcomes.Reply reply; routed = routed; became = became; told = (n, e, at, whose, says) }

-- an account, request by request and entry by entry; the link to each server that took commands was lost
pub record IsSmall (ring : RingState) (opening : CacheState) (order : Order) (text : List ℕ) (first second : List Entry) (log : Log) : Type 0 where
  pub own : AllByRecursion (λ (x : TakenRequest). x.session ≡ 0) order
  pub read : requests_of text ≡ map (λ (x : TakenRequest). x.what) order
  pub turns : map (λ (x : TakenRequest). x.session) order ≡ turns_of log
  pub numbered : AreInOrder order
  pub rings : Each (λ (k : ℕ) (x : TakenRequest). IsRingAfter 0 ring (before (takes 0) k log) x.ring) 0 order
  pub sized : All IsSized order
  pub complete : list_all is_complete (take (length order) order) ≡ true
  pub known : Each (IsKnown (two_histories first second) log) 0 order
  pub after : Each (λ (k : ℕ) (x : TakenRequest). k < number_of (takes 0) (before (puts 0) k log)) 0 order
  pub answers : (client : ℕ) → number_of (puts client) log ≡ (if 0 == client then length order else 0)
  pub first_legal : (life : ℕ) → IsLegal order 0 opening (in_life 0 life log first)
  pub second_legal : (life : ℕ) → IsLegal order 1 opening (in_life 1 life log second)
  -- the place of an entry, and its index there
  pub places : ℕ → ℕ
  pub numbers : ℕ → ℕ
  pub first_sites : Each (λ (k : ℕ) (e : Entry). (places e.request ≡ 0) × (numbers e.request ≡ k)) 0 first
  pub second_sites : Each (λ (k : ℕ) (e : Entry). (places e.request ≡ 1) × (numbers e.request ≡ k)) 0 second
  pub first_placed : Each (TakenBeforeAnswered order log 0) 0 first
  pub second_placed : Each (TakenBeforeAnswered order log 1) 0 second
  pub first_risen : AreRisen order 0 first
  pub second_risen : AreRisen order 0 second
  pub first_lost : number_of (drops 0 0) log ≡ 0 → first ≡ []
  pub second_lost : number_of (drops 0 1) log ≡ 0 → second ≡ []
  pub first_moments : map (λ (e : Entry). e.moment) first ≡ moments_of 0 log
  pub second_moments : map (λ (e : Entry). e.moment) second ≡ moments_of 1 log
  pub no_moments : (place : ℕ) → (0 == place) ≡ false → (1 == place) ≡ false → [] ≡ moments_of place log

-- the requests of a client in the order
nothing_by : (v : Bool) → ◌≡◌ {A = Order} [] (if v then [] else [])
nothing_by true = refl
nothing_by false = refl

more_by : (v : Bool) (x : TakenRequest) (xs : Order) → (if v then x ∷ (if v then xs else []) else (if v then xs else [])) ≡ (if v then x ∷ xs else [])
more_by true x xs = refl
more_by false x xs = refl

all_own : (client : ℕ) (order : Order) → AllByRecursion (λ (x : TakenRequest). x.session ≡ 0) order
    → entries_of client order ≡ (if 0 == client then order else [])
all_own client [] own = nothing_by (0 == client)
all_own client (x ∷ xs) own =
    ap (λ (s : ℕ). if s == client then x ∷ entries_of client xs else entries_of client xs) own.0
    ∙ ap (λ (rest : Order). if 0 == client then x ∷ rest else rest) (all_own client xs own.1) ∙ more_by (0 == client) x xs

asked_own : (order : Order) → AllByRecursion (λ (x : TakenRequest). x.session ≡ 0) order → (client request : ℕ) (x : TakenRequest) → asked_at order client request ≡ Some x
    → (0 ≡ client) × (slice_get order request ≡ Some x)
asked_own order own client request x at =
    let there = there_if (0 == client) order request x (ap (λ (es : Order). slice_get es request) (sym (all_own client order own)) ∙ at) in
    (eqb-true 0 client there.0, there.1)

asked_by : (order : Order) (text : List ℕ) → requests_of text ≡ map (λ (x : TakenRequest). x.what) order → (v : Bool)
    → (untaken : List Parsed) × (map (λ (x : TakenRequest). x.what) (if v then order else []) ++ untaken ≡ requests_of (if v then text else []))
asked_by order text read true = ([], append-nil (map (λ (x : TakenRequest). x.what) order) ∙ sym read)
asked_by order text read false = ([], sym nothing_read)

numbered_by : (order : Order) → AreInOrder order → (v : Bool) → AreInOrder (if v then order else [])
numbered_by order are true = are
numbered_by order are false = refl

complete_by : (order : Order) → list_all is_complete (take (length order) order) ≡ true → (v : Bool)
    → list_all is_complete (take (if v then length order else 0) (if v then order else [])) ≡ true
complete_by order all true = all
complete_by order all false = refl

early_by : (many request : ℕ) (v : Bool) → request < (if v then many else 0) → (v ≡ true) × (request < many)
early_by many request true early = (refl, early)
early_by many request false early = absurd (omega (arith, early))

nothing_left : (n m : ℕ) → ◌≡◌ {A = List Entry} (drop n (take m [])) []
nothing_left zero zero = refl
nothing_left zero (suc m) = refl
nothing_left (suc n) zero = refl
nothing_left (suc n) (suc m) = refl

-- the outcome of a command is shown
known_by : (ring : RingState) (opening : CacheState) (order : Order) (text : List ℕ) (first second : List Entry) (log : Log) → IsSmall ring opening order text first second log
    → (tag : Tag) (place : ℕ) (atom : Atom (List ℕ)) (outcome : Outcome) → command_at order tag ≡ Some (to_place place atom) → outcome_at order tag ≡ Some outcome
    → HasOutcomeBy one_home (two_histories first second) log tag (to_place place atom) outcome
known_by ring opening order text first second log h tag place atom outcome at became =
    let asked = in_request (asked_at order tag.session tag.request) tag.atom (to_place place atom) at in
    let own = asked_own order h.own tag.session tag.request asked.0 asked.1 in
    let known : IsKnown (two_histories first second) log tag.request asked.0 =
    each_of (IsKnown (two_histories first second) log) order h.known tag.request asked.0 own.1 in
    let command = one_here (to_place known.place known.atom) tag.atom (to_place place atom) (ap (λ (cs : List Routed). slice_get cs tag.atom) (sym known.routed) ∙ asked.2) in
    let told = outcome_in_request (asked_at order tag.session tag.request) tag.atom outcome became in
    let same : told.0 ≡ asked.0 = same_Some told.0 asked.0 (sym told.1 ∙ asked.1) in
    let is = one_here known.outcome tag.atom outcome
    (ap (λ (os : List Outcome). slice_get os tag.atom) (sym (ap (λ (x : TakenRequest). x.outcomes) same ∙ known.became)) ∙ told.2) in
    subst (λ (q : Outcome). HasOutcomeBy one_home (two_histories first second) log tag (to_place place atom) q) (sym is.1)
    (subst (λ (c : Routed). HasOutcomeBy one_home (two_histories first second) log tag c known.outcome) (sym command.1)
    (subst (λ (t : Tag). HasOutcomeBy one_home (two_histories first second) log t (to_place known.place known.atom) known.outcome) (tag_is tag tag.request own.0 refl command.0) known.told))

-- the place and index of an entry
sites_by : (ring : RingState) (opening : CacheState) (order : Order) (text : List ℕ) (first second : List Entry) (log : Log) → (h : IsSmall ring opening order text first second log)
    → (place k : ℕ) (e : Entry) → slice_get (two_histories first second place) k ≡ Some e → (h.places e.request ≡ place) × (h.numbers e.request ≡ k)
sites_by ring opening order text first second log h =
    by_place (λ place. (k : ℕ) (e : Entry) → slice_get (two_histories first second place) k ≡ Some e → (h.places e.request ≡ place) × (h.numbers e.request ≡ k))
    (λ k e at. each_of (λ (n : ℕ) (x : Entry). (h.places x.request ≡ 0) × (h.numbers x.request ≡ n)) first h.first_sites k e at)
    (λ k e at. each_of (λ (n : ℕ) (x : Entry). (h.places x.request ≡ 1) × (h.numbers x.request ≡ n)) second h.second_sites k e at)
    (λ place differ neither k e at. absurd (else_there first second place k e differ neither at))

placed_by : (ring : RingState) (opening : CacheState) (order : Order) (text : List ℕ) (first second : List Entry) (log : Log) → IsSmall ring opening order text first second log
    → (place k : ℕ) (e : Entry) → slice_get (two_histories first second place) k ≡ Some e → TakenBeforeAnswered order log place k e
placed_by ring opening order text first second log h =
    by_place (λ place. (k : ℕ) (e : Entry) → slice_get (two_histories first second place) k ≡ Some e → TakenBeforeAnswered order log place k e)
    (λ k e at. each_of (TakenBeforeAnswered order log 0) first h.first_placed k e at)
    (λ k e at. each_of (TakenBeforeAnswered order log 1) second h.second_placed k e at)
    (λ place differ neither k e at. absurd (else_there first second place k e differ neither at))

ordered_by : (ring : RingState) (opening : CacheState) (order : Order) (text : List ℕ) (first second : List Entry) (log : Log) → IsSmall ring opening order text first second log
    → (place j k : ℕ) (d e : Entry) (r q : AReply (List ℕ)) → slice_get (two_histories first second place) j ≡ Some d → slice_get (two_histories first second place) k ≡ Some e
    → j < k → outcome_at order (tag_in d) ≡ Some (outcomes.Reply r) → outcome_at order (tag_in e) ≡ Some (outcomes.Reply q) → d.request < e.request
ordered_by ring opening order text first second log h =
    by_place (λ place. (j k : ℕ) (d e : Entry) (r q : AReply (List ℕ)) → slice_get (two_histories first second place) j ≡ Some d
    → slice_get (two_histories first second place) k ≡ Some e → j < k → outcome_at order (tag_in d) ≡ Some (outcomes.Reply r)
    → outcome_at order (tag_in e) ≡ Some (outcomes.Reply q) → d.request < e.request)
    (λ j k d e r q at also less one other. risen_two order 0 first h.first_risen j k d e r q at also less one other)
    (λ j k d e r q at also less one other. risen_two order 0 second h.second_risen j k d e r q at also less one other)
    (λ place differ neither j k d e r q at also less one other. absurd (else_there first second place j d differ neither at))

legal_by : (ring : RingState) (opening : CacheState) (order : Order) (text : List ℕ) (first second : List Entry) (log : Log) → IsSmall ring opening order text first second log
    → (place life : ℕ) → IsLegal order place opening (in_life place life log (two_histories first second place))
legal_by ring opening order text first second log h =
    by_place (λ place. (life : ℕ) → IsLegal order place opening (in_life place life log (two_histories first second place))) h.first_legal h.second_legal
    (λ place differ neither life. subst (λ (es : List Entry). IsLegal order place opening (in_life place life log es)) (sym (none_else first second place differ neither))
    (subst (λ (es : List Entry). IsLegal order place opening es) (sym (nothing_left (taken_before place life log) (taken_before place (suc life) log))) tt))

unlost_by : (ring : RingState) (opening : CacheState) (order : Order) (text : List ℕ) (first second : List Entry) (log : Log) → IsSmall ring opening order text first second log
    → (place : ℕ) → number_of (drops 0 place) log ≡ 0 → two_histories first second place ≡ []
unlost_by ring opening order text first second log h =
    by_place (λ place. number_of (drops 0 place) log ≡ 0 → two_histories first second place ≡ []) h.first_lost h.second_lost
    (λ place differ neither none. none_else first second place differ neither)

moments_by : (ring : RingState) (opening : CacheState) (order : Order) (text : List ℕ) (first second : List Entry) (log : Log) → IsSmall ring opening order text first second log
    → (place : ℕ) → map (λ (e : Entry). e.moment) (two_histories first second place) ≡ moments_of place log
moments_by ring opening order text first second log h =
    by_place (λ place. map (λ (e : Entry). e.moment) (two_histories first second place) ≡ moments_of place log) h.first_moments h.second_moments
    (λ place differ neither. ap (λ (es : List Entry). map (λ (e : Entry). e.moment) es) (none_else first second place differ neither) ∙ h.no_moments place differ neither)

after_by : (ring : RingState) (opening : CacheState) (order : Order) (text : List ℕ) (first second : List Entry) (log : Log) → IsSmall ring opening order text first second log
    → (client request : ℕ) → request < number_of (puts client) log → request < number_of (takes client) (before (puts client) request log)
after_by ring opening order text first second log h client request early =
    let many : request < (if 0 == client then length order else 0) = subst (λ (n : ℕ). request < n) (h.answers client) early in
    let own = early_by (length order) request (0 == client) many in
    let got = got_within order request own.1 in
    subst (λ (c : ℕ). request < number_of (takes c) (before (puts c) request log)) (eqb-true 0 client own.0)
    (each_of (λ (k : ℕ) (x : TakenRequest). k < number_of (takes 0) (before (puts 0) k log)) order h.after request got.0 got.1)

rings_by : (ring : RingState) (opening : CacheState) (order : Order) (text : List ℕ) (first second : List Entry) (log : Log) → IsSmall ring opening order text first second log
    → (client request : ℕ) (x : TakenRequest) → asked_at order client request ≡ Some x → IsRingAfter 0 ring (before (takes client) request log) x.ring
rings_by ring opening order text first second log h client request x at =
    let own = asked_own order h.own client request x at in
    subst (λ (c : ℕ). IsRingAfter 0 ring (before (takes c) request log) x.ring) own.0
    (each_of (λ (k : ℕ) (y : TakenRequest). IsRingAfter 0 ring (before (takes 0) k log) y.ring) order h.rings request x own.1)

pub small_accounts : (losses : Losses) (ring : RingState) (opening : CacheState) (order : Order) (text : List ℕ) (first second : List Entry) (log : Log)
    → IsSmall ring opening order text first second log → Accounts one_home losses ring opening order (first_text text) (outs_of losses order log) (two_histories first second) log
small_accounts losses ring opening order text first second log h = record {
  asked = λ client.
      let own = asked_by order text h.read (0 == client) in
      (own.0, ap (λ (es : Order). map (λ (x : TakenRequest). x.what) es ++ own.0) (all_own client order h.own) ∙ own.1);
  turns = h.turns;
  numbered = λ client. subst (λ (es : Order). AreInOrder es) (sym (all_own client order h.own)) (numbered_by order h.numbered (0 == client));
  rings = rings_by ring opening order text first second log h;
  sized = h.sized;
  legal = legal_by ring opening order text first second log h;
  once = λ r s j k d e at also same.
      let here = sites_by ring opening order text first second log h r j d at in
      let there = sites_by ring opening order text first second log h s k e also in
      let number : d.request ≡ e.request = ap (λ (t : Tag). t.request) same in
      (sym here.0 ∙ ap h.places number ∙ there.0, sym here.1 ∙ ap h.numbers number ∙ there.1);
  replied = λ tag place atom reply at became. known_by ring opening order text first second log h tag place atom (outcomes.Reply reply) at became;
  lost = λ tag place atom at became. known_by ring opening order text first second log h tag place atom outcomes.Lost at became;
  ordered = λ place j k d e r q at also less own one other. inl (ordered_by ring opening order text first second log h place j k d e r q at also less one other);
  followed = followed_one order (two_histories first second) log (λ place none. (
    tags_of (commands_to place order),
    ap (λ (es : List Entry). map tag_in es ++ tags_of (commands_to place order)) (unlost_by ring opening order text first second log h place none),
  ));
  answered = λ client.
      ap₂ (λ (n : ℕ) (es : Order). list_all is_complete (take n es)) (h.answers client) (all_own client order h.own) ∙ complete_by order h.complete (0 == client);
  put = λ client. refl;
  after = after_by ring opening order text first second log h;
  moments = moments_by ring opening order text first second log h;
  placed = placed_by ring opening order text first second log h;
}
