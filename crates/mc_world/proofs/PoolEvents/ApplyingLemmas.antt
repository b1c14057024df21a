-- Whether events apply to a pool, by what the calls look at.
use Rattle.std.proofs.Common.{◌≡◌, ◌∙◌, ℕ, ◌<◌, ◌≤◌, ◌==◌, inl, inr, Bool, true, false, if◌then◌else◌, not, length, Option, Some, None, slice_get, refl, sym, ap, subst, arith}
use Rattle.std.specs.Prelude.{◌↔◌, IsTrue}
use Rattle.std.specs.Option.{is_some}
use Rattle.std.proofs.lemmas.Bool.{le-ltb, lt-ltb}
use Rattle.std.proofs.lemmas.Bool.Decides.{nat_tests}
use Rattle.std.proofs.lemmas.Option.{none-some, same_Some}
use Rattle.mc_link.specs.LinkState.{can_come_back}
use Rattle.mc_server.specs.ServerState.{connection_at, output_of}
use Rattle.mc_server.specs.Turns.{waiting_of}
use Rattle.mc_world.specs.Applies.{CanAdmit, CanReachLate, CanReachProxy, CanReturn, CanServe, CanServeLate, HasLost, IsUp, Lives, lost_way}
use Rattle.mc_world.specs.Courses.{ByWay}
use Rattle.mc_world.specs.Refusals.{restart_refusal_of}
use Rattle.mc_world.specs.WorldState.{PoolState, SiteState, StaleState, link_of, proxy_at, way_by}
use Rattle.mc_world.specs.declared.errors.WorldError.TheVariants.{NoServer}
use Rattle.mc_world.proofs.PoolEvents.AppliesLemmas.{found_way, late_serves_if, serves_if}

-- a place without a server has lost no generation
pub lost_nowhere : (proxy place generation : ℕ) (pool : PoolState) → slice_get pool.sites place ≡ None → HasLost proxy place generation pool → ⊥
lost_nowhere proxy place generation pool none h = none-some h.site (sym none ∙ h.at)

-- a server has not lost a generation whose way is not found
pub lost_no_way : (proxy place generation : ℕ) (pool : PoolState) (site : SiteState) → slice_get pool.sites place ≡ Some site → None ≡ lost_way proxy generation site.lost
    → HasLost proxy place generation pool → ⊥
lost_no_way proxy place generation pool site at none h =
    let same : h.site ≡ site = same_Some h.site site (sym h.at ∙ at) in
    none-some h.i (none ∙ ap (λ (s : SiteState). lost_way proxy generation s.lost) (sym same) ∙ h.first)

-- a server has lost a generation whose way is found
pub lost_here : (proxy place generation i : ℕ) (pool : PoolState) (site : SiteState) → slice_get pool.sites place ≡ Some site → Some i ≡ lost_way proxy generation site.lost
    → HasLost proxy place generation pool
lost_here proxy place generation i pool site at found =
    let there = found_way proxy generation site.lost i (sym found) in
    record { site = site; at = at; i = i; first = sym found; way = there.way; way_at = there.at }

pub lost_if : (proxy place generation : ℕ) (pool : PoolState) (site : SiteState) → slice_get pool.sites place ≡ Some site → (found : Option ℕ)
    → found ≡ lost_way proxy generation site.lost → IsTrue (is_some found) ↔ HasLost proxy place generation pool
lost_if proxy place generation pool site at (Some i) is = (λ _. lost_here proxy place generation i pool site at is, λ _. refl)
lost_if proxy place generation pool site at None is = (λ never. absurd cc, λ h. absurd (lost_no_way proxy place generation pool site at is h))

-- a living generation is in its case, a lost one in the other
pub by_living : (proxy place generation : ℕ) (pool : PoolState) (living late : Type 0) (b : Bool) → Lives proxy place generation pool → IsTrue b ↔ living
    → IsTrue b ↔ ByWay proxy place generation pool living late
by_living proxy place generation pool living late b lives told = (
  λ is. inl (lives, told.0 is),
  λ by. elim by [ inl one ↦ told.1 one.1 | inr other ↦ absurd (other.0 lives) ],
)

pub by_late : (proxy place generation : ℕ) (pool : PoolState) (living late : Type 0) (b : Bool) → (Lives proxy place generation pool → ⊥) → IsTrue b ↔ late
    → IsTrue b ↔ ByWay proxy place generation pool living late
by_late proxy place generation pool living late b never told = (
  λ is. inr (never, told.0 is),
  λ by. elim by [ inl one ↦ absurd (never one.0) | inr other ↦ told.1 other.1 ],
)

-- at a place without a server neither applies
pub by_nowhere : (proxy place generation : ℕ) (pool : PoolState) (living late : Type 0) → slice_get pool.sites place ≡ None → (late → HasLost proxy place generation pool)
    → ByWay proxy place generation pool living late → ⊥
by_nowhere proxy place generation pool living late none there by = elim by [
  | inl one ↦ none-some one.0.site (sym none ∙ one.0.at)
  | inr other ↦ lost_nowhere proxy place generation pool none (there other.1)
]

pub never : (P : Type 0) → (P → ⊥) → IsTrue false ↔ P
never P not = (λ is. absurd cc, λ p. absurd (not p))

-- a server takes a request of the living generation
pub serves_living : (proxy place : ℕ) (pool : PoolState) (site : SiteState) → slice_get pool.sites place ≡ Some site → IsUp proxy place pool → (b : Bool)
    → IsTrue b ↔ (0 < length (waiting_of (connection_at site.server (way_by site proxy).connection))) → IsTrue b ↔ CanServe proxy place pool
serves_living proxy place pool site at up b told = (
  λ is. record { site = site; at = at; up = up; waits = told.0 is },
  λ can. told.1 (serves_if proxy place pool site at can),
)

-- a server takes a request of a lost generation
pub serves_lost : (proxy place generation i : ℕ) (pool : PoolState) (site : SiteState) (way : StaleState) → slice_get pool.sites place ≡ Some site
    → Some i ≡ lost_way proxy generation site.lost → slice_get site.lost i ≡ Some way → (b : Bool) → IsTrue b ↔ (0 < length (waiting_of (connection_at site.server way.connection)))
    → IsTrue b ↔ CanServeLate proxy place generation pool
serves_lost proxy place generation i pool site way at found way_at b told = (
  λ is. record { there = record { site = site; at = at; i = i; first = sym found; way = way; way_at = way_at }; waits = told.0 is },
  λ can. told.1 (late_serves_if proxy place generation i pool site way at (sym found) way_at can),
)

-- bytes of a lost generation are on their way
late_going : (proxy place generation i : ℕ) (pool : PoolState) (site : SiteState) (way : StaleState) → slice_get pool.sites place ≡ Some site
    → Some i ≡ lost_way proxy generation site.lost → slice_get site.lost i ≡ Some way → (there : HasLost proxy place generation pool) → there.way ≡ way
late_going proxy place generation i pool site way at found way_at there =
    let same : there.site ≡ site = same_Some there.site site (sym there.at ∙ at) in
    let place_is : there.i ≡ i = same_Some there.i i (sym there.first ∙ ap (λ (s : SiteState). lost_way proxy generation s.lost) same ∙ sym found) in
    same_Some there.way way (sym there.way_at ∙ ap (λ (s : SiteState). slice_get s.lost there.i) same ∙ ap (λ (n : ℕ). slice_get site.lost n) place_is ∙ way_at)

pub reaches_lost : (proxy place generation i count : ℕ) (pool : PoolState) (site : SiteState) (way : StaleState) → slice_get pool.sites place ≡ Some site
    → Some i ≡ lost_way proxy generation site.lost → slice_get site.lost i ≡ Some way → 0 < count → (b : Bool) → IsTrue b ↔ (0 < length way.going)
    → IsTrue b ↔ CanReachLate proxy place generation count pool
reaches_lost proxy place generation i count pool site way at found way_at some b told = (
  λ is. record { there = record { site = site; at = at; i = i; first = sym found; way = way; way_at = way_at }; moves = (some, told.0 is) },
  λ can. told.1 (subst (λ (w : StaleState). 0 < length w.going) (late_going proxy place generation i pool site way at found way_at can.there) can.moves.1),
)

-- bytes arrive at the proxy
pub comes_if : (proxy place count : ℕ) (pool : PoolState) (site : SiteState) → slice_get pool.sites place ≡ Some site → IsUp proxy place pool → 0 < count → (b : Bool)
    → IsTrue b ↔ (0 < length (output_of (connection_at site.server (way_by site proxy).connection))) → IsTrue b ↔ CanReachProxy proxy place count pool
comes_if proxy place count pool site at up some b told = (
  λ is. record { site = site; at = at; up = up; moves = (some, told.0 is) },
  λ can.
      let same : can.site ≡ site = same_Some can.site site (sym can.at ∙ at) in
      told.1 (subst (λ (s : SiteState). 0 < length (output_of (connection_at s.server (way_by s proxy).connection))) same can.moves.1),
)

-- a link can come up if its server can admit a connection; one that a proxy does not have cannot
pub returns_if : (proxy place : ℕ) (pool : PoolState) (site : SiteState) → slice_get pool.sites place ≡ Some site → place < length (proxy_at pool proxy).links
    → can_come_back (link_of pool proxy place) ≡ true → (b : Bool) → IsTrue b ↔ CanAdmit site.server → IsTrue b ↔ CanReturn proxy place pool
returns_if proxy place pool site at inside can b told = (
  λ is. record { site = site; at = at; inside = inside; can = can; admits = told.0 is },
  λ h.
      let same : h.site ≡ site = same_Some h.site site (sym h.at ∙ at) in
      told.1 (subst (λ (s : SiteState). CanAdmit s.server) same h.admits),
)

pub no_link : (proxy place : ℕ) (pool : PoolState) → length (proxy_at pool proxy).links ≤ place → CanReturn proxy place pool → ⊥
no_link proxy place pool past can = omega (arith, can.inside, past)

-- bytes are not empty if their number is above 0
pub some_if : (b : Bool) (n : ℕ) → b ≡ (n == 0) → IsTrue (not b) ↔ (0 < n)
some_if b n is = (λ t. grind (arith, nat_tests, is, t), λ some. grind (arith, nat_tests, is, some))

-- what implies a test that fails does not hold
pub not_so : {P : Type 0} (b : Bool) → b ≡ false → (P → IsTrue b) → P → ⊥
not_so b is told p = let clash : false ≡ true = sym is ∙ told p in absurd cc

-- why a server cannot restart, by whether its place has one
pub refused_past : (servers place : ℕ) → servers ≤ place → Some NoServer ≡ restart_refusal_of servers place
refused_past servers place past = ap (λ (v : Bool). if v then None else Some NoServer) (sym (le-ltb place servers past))

pub refused_inside : (servers place : ℕ) → place < servers → None ≡ restart_refusal_of servers place
refused_inside servers place inside = ap (λ (v : Bool). if v then None else Some NoServer) (sym (lt-ltb place servers inside))
