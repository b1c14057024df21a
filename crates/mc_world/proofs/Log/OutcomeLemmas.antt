-- An order while outcomes of its commands are noted.
use Rattle.std.proofs.Common.{◌≡◌, ◌∙◌, ℕ, zero, suc, ◌+◌, ◌==◌, ◌⊎◌, inl, inr, Bool, true, false, if◌then◌else◌, List, [], ◌∷◌, map, Some, slice_get, refl, sym, ap, subst, arith}
use Rattle.std.specs.Prelude.{All}
use Rattle.std.proofs.lemmas.Bool.{and_from, eq-eqb}
use Rattle.std.proofs.lemmas.Option.{none-some, same_Some}
use Rattle.mc_route.specs.declared.outcomes.Outcome.{Outcome}
use Rattle.mc_route.specs.declared.outcomes.Outcome.TheVariants.{Awaited, Lost}
use Rattle.mc_link.specs.declared.turns.Tag.{Tag}
use Rattle.mc_proxy.specs.SessionNoting.{set_outcome}
use Rattle.mc_cache.specs.CacheState.{CacheState}
use Rattle.mc_account.specs.Answered.{AreAnswers}
use Rattle.mc_account.specs.Lanes.{Lane}
use Rattle.mc_account.specs.Lookups.{AreAwaited, IsRoutedWithin, asked_at, command_at, outcome_at, outcome_in}
use Rattle.mc_account.specs.Orders.{AreInOrder, Order, TakenRequest, entries_of, note, note_all, note_in, numbers_from, owns}
use Rattle.mc_account.proofs.LookupLemmas.{numbered-note}
use Rattle.mc_account.proofs.OrderLemmas.{entries-note}
use Rattle.mc_account.proofs.StayingLemmas.{answers_note}
use Rattle.mc_account.proofs.WithinLemmas.{within-note}
use Rattle.mc_history.specs.Made.{Each}
use Rattle.mc_history.proofs.OutcomeLemmas.{command_note, note_back, own_of}
use Rattle.mc_world.specs.Homes.{Homes, of_proxy}
use Rattle.mc_world.specs.Pools.{PoolHolds}
use Rattle.mc_world.specs.WorldState.{PoolState, home_of}
use Rattle.mc_world.proofs.Homes.OrderLemmas.{numbered_whole, of_proxy-note, outcome_whole}

-- The same requests, with more outcomes known: a lost command stays lost, and an answered one
-- answered.
pub record Goes (old new : Order) : Type 0 where
  pub sessions : map (λ (e : TakenRequest). e.session) new ≡ map (λ (e : TakenRequest). e.session) old
  pub rings : (client request : ℕ) (e : TakenRequest) → asked_at new client request ≡ Some e
      → (d : TakenRequest) × (asked_at old client request ≡ Some d) × (e.ring ≡ d.ring)
  pub inside : (home : Homes) (proxy places : ℕ) → All (IsRoutedWithin places) (of_proxy home proxy old) → All (IsRoutedWithin places) (of_proxy home proxy new)
  pub commands : (tag : Tag) → command_at new tag ≡ command_at old tag
  pub lost : (tag : Tag) → outcome_at old tag ≡ Some Lost → outcome_at new tag ≡ Some Lost
  pub answers : (client count : ℕ) (out : List ℕ) → AreAnswers client old count out [] → AreAnswers client new count out []

pub goes_same : (order : Order) → Goes order order
goes_same order = record {
  sessions = refl;
  rings = λ client request e at. (e, at, refl);
  inside = λ home proxy places h. h;
  commands = λ tag. refl;
  lost = λ tag h. h;
  answers = λ client count out h. h;
}

pub goes_then : (old middle new : Order) → Goes old middle → Goes middle new → Goes old new
goes_then old middle new f g = record {
  sessions = g.sessions ∙ f.sessions;
  rings = λ client request e at.
      let later = g.rings client request e at in
      let first = f.rings client request later.0 later.1 in
      (first.0, first.1, later.2 ∙ first.2);
  inside = λ home proxy places h. g.inside home proxy places (f.inside home proxy places h);
  commands = λ tag. g.commands tag ∙ f.commands tag;
  lost = λ tag h. g.lost tag (f.lost tag h);
  answers = λ client count out h. g.answers client count out (f.answers client count out h);
}

-- an outcome that is noted in a list of outcomes
with_some : (at : ℕ) (outcome : Outcome) (xs : List Outcome) (a : ℕ) (q : Outcome) → slice_get xs a ≡ Some q → (r : Outcome) × (slice_get (set_outcome at outcome xs) a ≡ Some r)
with_some at outcome [] zero q e = absurd (none-some q e)
with_some at outcome [] (suc a) q e = absurd (none-some q e)
with_some zero outcome (x ∷ xs) zero q e = (outcome, refl)
with_some zero outcome (x ∷ xs) (suc a) q e = (q, e)
with_some (suc at) outcome (x ∷ xs) zero q e = (q, e)
with_some (suc at) outcome (x ∷ xs) (suc a) q e = with_some at outcome xs a q e

with_own : (at : ℕ) (outcome : Outcome) (xs : List Outcome) (q : Outcome) → slice_get xs at ≡ Some q → slice_get (set_outcome at outcome xs) at ≡ Some outcome
with_own zero outcome [] q e = absurd (none-some q e)
with_own (suc at) outcome [] q e = absurd (none-some q e)
with_own zero outcome (x ∷ xs) q e = refl
with_own (suc at) outcome (x ∷ xs) q e = with_own at outcome xs q e

-- a command that had a known outcome has one
some_in : (t : Tag) (outcome : Outcome) (es : Order) (k a : ℕ) (q : Outcome) → outcome_in (slice_get es k) a ≡ Some q → (r : Outcome) × (outcome_in (slice_get (note t outcome es) k) a ≡ Some r)
some_in t outcome [] zero a q e = absurd (none-some q e)
some_in t outcome [] (suc k) a q e = absurd (none-some q e)
some_in t outcome (x ∷ xs) zero a q e = (elim (owns t x) as (λ v. (r : Outcome) × (slice_get (if v then set_outcome t.atom outcome x.outcomes else x.outcomes) a ≡ Some r)) [
  | true ↦ with_some t.atom outcome x.outcomes a q e
  | false ↦ (q, e)
])
some_in t outcome (x ∷ xs) (suc k) a q e = some_in t outcome xs k a q e

note_some : (t : Tag) (outcome : Outcome) (order : Order) (tag : Tag) (q : Outcome) → outcome_at order tag ≡ Some q → (r : Outcome) × (outcome_at (note t outcome order) tag ≡ Some r)
note_some t outcome order tag q e =
    let there = some_in t outcome (entries_of tag.session order) tag.request tag.atom q e in
    (there.0, ap (λ (es : Order). outcome_in (slice_get es tag.request) tag.atom) (entries-note tag.session t outcome order) ∙ there.1)

-- the command whose outcome is noted
own_in : (t : Tag) (outcome : Outcome) (es : Order) (at k : ℕ) (q : Outcome) → map (λ (e : TakenRequest). e.request) es ≡ numbers_from at es → Each (λ (e : TakenRequest). e.session ≡ t.session) es
    → k + at ≡ t.request → outcome_in (slice_get es k) t.atom ≡ Some q → outcome_in (slice_get (note t outcome es) k) t.atom ≡ Some outcome
own_in t outcome [] at zero q numbered own number e = absurd (none-some q e)
own_in t outcome [] at (suc k) q numbered own number e = absurd (none-some q e)
own_in t outcome (x ∷ xs) at zero q numbered own number e =
    let first : x.request ≡ at = cc in
    let its : x.request ≡ t.request = omega (arith, first, number) in
    let owned : owns t x ≡ true = and_from (x.session == t.session) (x.request == t.request) (eq-eqb x.session t.session own.0) (eq-eqb x.request t.request its) in
    ap (λ (v : Bool). slice_get (if v then set_outcome t.atom outcome x.outcomes else x.outcomes) t.atom) owned ∙ with_own t.atom outcome x.outcomes q e
own_in t outcome (x ∷ xs) at (suc k) q numbered own number e =
    let after : map (λ (y : TakenRequest). y.request) xs ≡ numbers_from (suc at) xs = cc in
    own_in t outcome xs (suc at) k q after own.1 (omega (arith, number)) e

note_own : (t : Tag) (outcome : Outcome) (order : Order) (q : Outcome) → AreInOrder (entries_of t.session order) → outcome_at order t ≡ Some q → outcome_at (note t outcome order) t ≡ Some outcome
note_own t outcome order q numbered e =
    ap (λ (es : Order). outcome_in (slice_get es t.request) t.atom) (entries-note t.session t outcome order)
    ∙ own_in t outcome (entries_of t.session order) 0 t.request q numbered (own_of t.session order) (omega arith) e

pub awaited_not_lost : Awaited ≡ Lost → ⊥
awaited_not_lost e = absurd cc

-- a lost command stays lost when the outcome of an awaited one is noted
lost_stays : (t : Tag) (outcome : Outcome) (order : Order) → ((number : ℕ) → AreInOrder (entries_of number order)) → outcome_at order t ≡ Some Awaited
    → (tag : Tag) → outcome_at order tag ≡ Some Lost → outcome_at (note t outcome order) tag ≡ Some Lost
lost_stays t outcome order numbered awaited tag lost =
    let now = note_some t outcome order tag Lost lost in
    elim (note_back t outcome order tag now.0 (numbered tag.session) now.1) [
      | inl h ↦ now.1 ∙ sym h ∙ lost
      | inr h ↦ (
          let both : Some Awaited ≡ Some Lost = sym awaited ∙ ap (λ (u : Tag). outcome_at order u) (sym h.0) ∙ lost in
          absurd (awaited_not_lost (same_Some Awaited Lost both)))
    ]

-- the ring of a request
ring_noted : (t : Tag) (outcome : Outcome) (es : Order) (k : ℕ) (e : TakenRequest) → slice_get (note t outcome es) k ≡ Some e → (d : TakenRequest) × (slice_get es k ≡ Some d) × (e.ring ≡ d.ring)
ring_noted t outcome [] zero e at = absurd (none-some e at)
ring_noted t outcome [] (suc k) e at = absurd (none-some e at)
ring_noted t outcome (x ∷ xs) zero e at = (x, refl, ap (λ (y : TakenRequest). y.ring) (sym (same_Some (note_in t outcome x) e at)))
ring_noted t outcome (x ∷ xs) (suc k) e at = ring_noted t outcome xs k e at

-- the client of a request
sessions-note : (t : Tag) (outcome : Outcome) (es : Order)
    → map (λ (e : TakenRequest). e.session) (note t outcome es) ≡ map (λ (e : TakenRequest). e.session) es
sessions-note t outcome [] = refl
sessions-note t outcome (e ∷ es) = ap (λ (cs : List ℕ). e.session ∷ cs) (sessions-note t outcome es)

pub goes_note : (t : Tag) (outcome : Outcome) (order : Order) → ((number : ℕ) → AreInOrder (entries_of number order)) → outcome_at order t ≡ Some Awaited → Goes order (note t outcome order)
goes_note t outcome order numbered awaited = record {
  sessions = sessions-note t outcome order;
  rings = λ client request e at.
      ring_noted t outcome (entries_of client order) request e (ap (λ (es : Order). slice_get es request) (sym (entries-note client t outcome order)) ∙ at);
  inside = λ home proxy places h. subst (λ (es : Order). All (IsRoutedWithin places) es) (sym (of_proxy-note home proxy t outcome order)) (within-note places t outcome (of_proxy home proxy order) h);
  commands = λ tag. command_note t outcome order tag;
  lost = λ tag h. lost_stays t outcome order numbered awaited tag h;
  answers = λ client count out h. answers_note client order t outcome count out [] (numbered client) awaited h;
}

pub goes_note_all : (tags : List Tag) (outcome : Outcome) (order : Order) → ((number : ℕ) → AreInOrder (entries_of number order)) → AreAwaited tags outcome order
    → Goes order (note_all tags outcome order)
goes_note_all [] outcome order numbered awaited = goes_same order
goes_note_all (t ∷ ts) outcome order numbered awaited =
    goes_then order (note t outcome order) (note_all ts outcome (note t outcome order)) (goes_note t outcome order numbered awaited.0)
    (goes_note_all ts outcome (note t outcome order) (numbered-note t outcome order numbered) awaited.1)

-- a command that was awaited, and became lost with all of these
pub record BecameLost (order : Order) (tags : List Tag) (tag : Tag) (outcome : Outcome) : Type 0 where
  pub awaited : outcome_at order tag ≡ Some Awaited
  pub now : outcome ≡ Lost
  pub index : ℕ
  pub at : slice_get tags index ≡ Some tag

pub all_back : (tags : List Tag) (order : Order) (tag : Tag) (outcome : Outcome) → ((number : ℕ) → AreInOrder (entries_of number order)) → AreAwaited tags Lost order
    → outcome_at (note_all tags Lost order) tag ≡ Some outcome → (outcome_at order tag ≡ Some outcome) ⊎ BecameLost order tags tag outcome
all_back [] order tag outcome numbered awaited known = inl known
all_back (t ∷ ts) order tag outcome numbered awaited known =
    elim (all_back ts (note t Lost order) tag outcome (numbered-note t Lost order numbered) awaited.1 known) [
      | inl h ↦ (elim (note_back t Lost order tag outcome (numbered tag.session) h) [
        | inl k ↦ inl k
        | inr k ↦ inr (record {
          awaited = ap (λ (u : Tag). outcome_at order u) k.0 ∙ awaited.0;
          now = k.1;
          index = 0;
          at = ap (λ (u : Tag). Some u) (sym k.0);
        })
      ])
      | inr h ↦ (elim (note_back t Lost order tag Awaited (numbered tag.session) h.awaited) [
        | inl k ↦ inr (record { awaited = k; now = h.now; index = suc h.index; at = h.at })
        | inr k ↦ absurd (awaited_not_lost k.1)
      ])
    ]

-- each of them is lost
pub all_lost : (tags : List Tag) (order : Order) (index : ℕ) (tag : Tag) → ((number : ℕ) → AreInOrder (entries_of number order)) → AreAwaited tags Lost order
    → slice_get tags index ≡ Some tag → outcome_at (note_all tags Lost order) tag ≡ Some Lost
all_lost [] order zero tag numbered awaited at = absurd (none-some tag at)
all_lost [] order (suc index) tag numbered awaited at = absurd (none-some tag at)
all_lost (t ∷ ts) order zero tag numbered awaited at =
    let same : t ≡ tag = same_Some t tag at in
    subst (λ (u : Tag). outcome_at (note_all ts Lost (note t Lost order)) u ≡ Some Lost) same
    ((goes_note_all ts Lost (note t Lost order) (numbered-note t Lost order numbered) awaited.1).lost t (note_own t Lost order Awaited (numbered t.session) awaited.0))
all_lost (t ∷ ts) order (suc index) tag numbered awaited at = all_lost ts (note t Lost order) index tag (numbered-note t Lost order numbered) awaited.1 at

-- commands of one proxy that are awaited in its own order are awaited in the order of all
pub whole_awaited : (home : Homes) (proxy : ℕ) (tags : List Tag) (outcome : Outcome) (order : Order) → AreAwaited tags outcome (of_proxy home proxy order) → AreAwaited tags outcome order
whole_awaited home proxy [] outcome order awaited = tt
whole_awaited home proxy (t ∷ ts) outcome order awaited = (
  outcome_whole home proxy order t Awaited awaited.0,
  whole_awaited home proxy ts outcome (note t outcome order) (subst (λ (es : Order). AreAwaited ts outcome es) (sym (of_proxy-note home proxy t outcome order)) awaited.1),
)

-- the requests of each client are numbered in their order
pub pool_numbered : (opening : CacheState) (texts sent : ℕ → List ℕ) (order : Order) (lanes : ℕ → ℕ → Lane) (pool : PoolState) → PoolHolds opening texts sent order lanes pool
    → (number : ℕ) → AreInOrder (entries_of number order)
pool_numbered opening texts sent order lanes pool h number = numbered_whole (home_of pool) order (λ proxy. (h.proxies proxy).numbered) number
