-- The order of a drain's parts; they lose no generation.
use Rattle.std.proofs.Common.{◌≡◌, ◌∙◌, ⊎_elim, ℕ, suc, ◌+◌, ◌<◌, ◌||◌, inl, inr, Bool, true, false, List, [], ◌∷◌, Option, Some, None, length, slice_get, slice_set, refl, sym, ap, subst, arith}
use Rattle.std.specs.List.{list_all}
use Rattle.std.proofs.lemmas.Bool.{and_parts, cases_lt}
use Rattle.mc_world.specs.Acts.{HasDrained, IsIdle, IsOver, NoServer}
use Rattle.mc_world.specs.Courses.{Happens}
use Rattle.mc_world.specs.Drains.{AreDone, is_of_drain}
use Rattle.mc_world.specs.Pools.{AtSite}
use Rattle.mc_world.specs.Rounds.{InOrder, Until}
use Rattle.mc_world.specs.WorldState.{PoolState, SiteState, StaleState}
use Rattle.mc_world.specs.Worlds.{CourseState, WorldState}
use Rattle.mc_world.specs.declared.acts.Act.TheVariants.{SeeEnd}
use Rattle.mc_world.specs.declared.events.Event.{Event}
use Rattle.mc_world.specs.declared.events.Event.TheVariants.{ClientBytes, ClientGone, ClientTakes, Emit, LinkBack, LinkLost, ProxyTurn, ReplyTurn, ServerSeesEnd, ServerTurn, ToProxy, ToServer}
use Rattle.mc_world.proofs.Log.EntryLemmas.{got_inside}
use Rattle.mc_world.proofs.PoolEvents.PoolLemmas.{set_site}
use Rattle.mc_world.proofs.Drain.RestLemmas.{lost_first}
use Rattle.mc_world.proofs.SiteEvents.SiteLemmas.{get_none}

-- this was done a number of times
abbrev pub Times : (CourseState → CourseState → Type 0) → CourseState → CourseState → Type 0
Times Does old new = (times : ℕ) × InOrder (λ time. Does) times old new

-- it was done once more; and for the next number
pub times_more : (Does : CourseState → CourseState → Type 0) (a b c : CourseState) → Times Does a b → Does b c → Times Does a c
times_more Does a b c first next = (suc first.0, (b, first.1, next))

pub order_more : (Does : ℕ → CourseState → CourseState → Type 0) (n : ℕ) (a b c : CourseState) → InOrder Does n a b → Does n b c → InOrder Does (n + 1) a c
order_more Does n a b c first next =
    let one : suc n ≡ n + 1 = omega arith in
    subst (λ (m : ℕ). InOrder Does m a c) one (b, first, next)

-- a loop ends if its last part does nothing
pub until_over : (moment : ℕ) (Over : CourseState → Type 0) (Does : CourseState → CourseState → Type 0) (did : Bool) (a : CourseState) (b c : WorldState) → did ≡ false
    → Times Does a b.course → IsOver moment Over did b c → Until Over Does a c.course
until_over moment Over Does true a b c none times over = absurd cc
until_over moment Over Does false a b c none times over =
    subst (λ (w : WorldState). Until Over Does a w.course) (sym over.goes) (times.0, times.1, over.idle refl)

pub neither_did : (one two : Bool) → one ≡ false → two ≡ false → (one || two) ≡ false
neither_did true two none none' = absurd cc
neither_did false two none none' = none'

-- a server has no lost generation whose end it has not seen
abbrev pub HasNoLost : ℕ → PoolState → Type 0
HasNoLost place pool = (site : SiteState) → slice_get pool.sites place ≡ Some site → site.lost ≡ []

-- an empty list
nothing_there : (ways : List StaleState) (i : ℕ) (way : StaleState) → ways ≡ [] → slice_get ways i ≡ Some way → ⊥
nothing_there ways i way none at =
    let clash : ◌≡◌ {A = Option StaleState} None (Some way) = sym (get_none i) ∙ ap (λ (ws : List StaleState). slice_get ws i) (sym none) ∙ at in
    absurd cc

-- the sites stay; and that of one place is another
same_ended : (old new : PoolState) → new.sites ≡ old.sites → (k : ℕ) → HasNoLost k old → HasNoLost k new
same_ended old new same k h site at = h site (ap (λ (ss : List SiteState). slice_get ss k) (sym same) ∙ at)

one_ended : (place : ℕ) (site now : SiteState) (old new : PoolState) → slice_get old.sites place ≡ Some site → (site.lost ≡ [] → now.lost ≡ [])
    → new.sites ≡ slice_set old.sites place now → (k : ℕ) → HasNoLost k old → HasNoLost k new
one_ended place site now old new at keeps sites k h s at_s =
    ⊎_elim
    (λ own. ap (λ (x : SiteState). x.lost) own.1 ∙ keeps (h site (subst (λ (p : ℕ). slice_get old.sites p ≡ Some site) own.0 at)))
    (λ elsewhere. h s elsewhere.1)
    (set_site old.sites place now k s (ap (λ (ss : List SiteState). slice_get ss k) (sym sites) ∙ at_s))

there_ended : (proxy place : ℕ) (old new : PoolState) → (there : AtSite proxy place old new) → there.now.lost ≡ there.site.lost → (k : ℕ) → HasNoLost k old → HasNoLost k new
there_ended proxy place old new there same k h = one_ended place there.site there.now old new there.at (λ none. same ∙ none) there.sites k h

-- no event of a drain loses a generation
ended_stays : (moment : ℕ) (event : Event (List ℕ)) (old new : PoolState) → is_of_drain moment event ≡ true → Happens event old new → (k : ℕ) → HasNoLost k old → HasNoLost k new
ended_stays moment (ClientBytes client bytes) old new is e k h = absurd cc
ended_stays moment (ClientGone client) old new is e k h = absurd cc
ended_stays moment (LinkLost proxy server) old new is e k h = absurd cc
ended_stays moment (LinkBack proxy server) old new is e k h = absurd cc
ended_stays moment (ProxyTurn client) old new is e k h = same_ended old new e.sites k h
ended_stays moment (Emit client) old new is e k h = same_ended old new e.sites k h
ended_stays moment (ClientTakes client count) old new is e k h = same_ended old new e.1.sites k h
ended_stays moment (ToServer proxy server generation count) old new is e k h = elim e [
  | inl here ↦ there_ended proxy server old new here.0.there (ap (λ (s : SiteState). s.lost) here.0.arrives.all_else) k h
  | inr late ↦
      one_ended server late.1.there.site late.1.there.now old new late.1.there.at
      (λ none. absurd (nothing_there late.1.there.site.lost late.0 late.1.arrives.way none late.1.arrives.way_at)) late.1.there.sites k h
]
ended_stays moment (ServerTurn proxy server generation at) old new is e k h = elim e.1 [
  | inl here ↦ there_ended proxy server old new here.0.there (ap (λ (s : SiteState). s.lost) here.0.enters.all_else) k h
  | inr late ↦
      one_ended server late.1.there.site late.1.there.now old new late.1.there.at
      (λ none. absurd (nothing_there late.1.there.site.lost late.0 late.1.enters.way none late.1.enters.way_at)) late.1.there.sites k h
]
ended_stays moment (ToProxy proxy server count) old new is e k h = there_ended proxy server old new e.there (ap (λ (s : SiteState). s.lost) e.leaves) k h
ended_stays moment (ReplyTurn proxy server) old new is e k h = there_ended proxy server old new e.there (ap (λ (s : SiteState). s.lost) e.counts) k h
ended_stays moment (ServerSeesEnd proxy server generation) old new is e k h =
    one_ended server e.1.there.site e.1.there.now old new e.1.there.at
    (λ none. absurd (nothing_there e.1.there.site.lost e.0 e.1.ends.way none e.1.ends.way_at)) e.1.there.sites k h

all_ended : (moment : ℕ) (events : List (Event (List ℕ))) (old new : CourseState) → list_all (is_of_drain moment) events ≡ true → AreDone events old new
    → (k : ℕ) → HasNoLost k old.pool → HasNoLost k new.pool
all_ended moment [] old new are done k h = subst (λ (c : CourseState). HasNoLost k c.pool) (sym done) h
all_ended moment (e ∷ es) old new are done k h =
    let parts = and_parts (is_of_drain moment e) (list_all (is_of_drain moment) es) are in
    all_ended moment es done.0 new parts.1 done.2 k (ended_stays moment e old.pool done.0.pool parts.0 done.1.pool k h)

pub drained_ended : (moment : ℕ) (old new : WorldState) → HasDrained moment old new → (k : ℕ) → HasNoLost k old.course.pool → HasNoLost k new.course.pool
drained_ended moment old new h k none = all_ended moment h.drains.events old.course new.course h.drains.all h.drains.done k none

-- if no end is left to be seen, no lost generation is left
pub ended_here : (moment place : ℕ) (pool : PoolState) → IsIdle moment pool (SeeEnd place) → HasNoLost place pool
ended_here moment place pool idle site at =
    (elim site.lost as (λ ways. site.lost ≡ ways → site.lost ≡ []) [
      | [] ↦ λ e. e
      | way ∷ ways ↦ λ e. absurd (idle (lost_first pool place site way ways at e))
    ]) refl

-- no server has a lost generation, if the first ones have none and these are all
pub ended_all : (moment : ℕ) (old new : WorldState) → HasDrained moment old new → ((k : ℕ) → k < length old.course.pool.sites → HasNoLost k new.course.pool) → NoServer moment (λ k. SeeEnd k) new.course
ended_all moment old new h first place inside lost =
    let none : HasNoLost place new.course.pool = (elim (cases_lt place (length old.course.pool.sites)) [
      | inl below ↦ first place below
      | inr beyond ↦ drained_ended moment old new h place (λ site at. let there = got_inside old.course.pool.sites place site at in absurd (omega (arith, there, beyond)))
    ]) in
    nothing_there lost.site.lost lost.i lost.way (none lost.site lost.at) lost.way_at

pub ended_still : (moment : ℕ) (old new : WorldState) → HasDrained moment old new → NoServer moment (λ k. SeeEnd k) old.course → NoServer moment (λ k. SeeEnd k) new.course
ended_still moment old new h ended =
    ended_all moment old new h (λ k inside. drained_ended moment old new h k (ended_here moment k old.course.pool (ended k inside)))

-- one server more has seen all its ends
pub below_next : (moment n : ℕ) (old new : WorldState) → HasDrained moment old new → ((k : ℕ) → k < n → HasNoLost k old.course.pool) → IsIdle moment new.course.pool (SeeEnd n)
    → (k : ℕ) → k < n + 1 → HasNoLost k new.course.pool
below_next moment n old new h first idle k inside =
    (elim (cases_lt k n) [
      | inl below ↦ drained_ended moment old new h k (first k below)
      | inr above ↦ let same : n ≡ k = omega (arith, inside, above) in ended_here moment k new.course.pool (subst (λ (m : ℕ). IsIdle moment new.course.pool (SeeEnd m)) same idle)
    ])
