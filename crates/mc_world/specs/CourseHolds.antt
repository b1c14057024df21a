-- The invariant of a world, after all that was done.
use Rattle.std.specs.Prelude.{ℕ, ◌≡◌, ◌<◌, ◌≤◌, true, List, [], length, take, Some, slice_get}
use Rattle.mc_ring.specs.Rings.{RingState}
use Rattle.mc_link.specs.LinkState.{LinkState}
use Rattle.mc_cache.specs.CacheState.{CacheState, IsWithinBounds, opening_cache}
use Rattle.mc_account.specs.Lanes.{Lane}
use Rattle.mc_account.specs.Orders.{Order, commands_to}
use Rattle.mc_history.specs.Histories.{IsLegal}
use Rattle.mc_world.specs.Homes.{Homes, of_proxy}
use Rattle.mc_world.specs.LogHolds.{LogHolds}
use Rattle.mc_world.specs.Logs.{Log, drops, in_life, number_of, restarts, taken_before}
use Rattle.mc_world.specs.Pools.{PoolHolds}
use Rattle.mc_world.specs.WorldState.{IsRising, PoolState, SiteState, StaleState, begun_of, histories_of, home_of, link_of, proxy_at, way_by}
use Rattle.mc_world.specs.Worlds.{CourseState, WorldState, put_out_of, taken_by, text_of}

-- A site's way of a proxy is of the generation of its link. That proxy's lost generations rise up to it, and are below it while it lives.
pub record IsOfLink (proxy : ℕ) (link : LinkState) (site : SiteState) : Type 0 where
  pub same : (way_by site proxy).generation ≡ link.generation
  pub most : (i : ℕ) (way : StaleState) → slice_get site.lost i ≡ Some way → way.proxy ≡ proxy → way.generation ≤ (way_by site proxy).generation
  pub below : link.up ≡ true → (i : ℕ) (way : StaleState) → slice_get site.lost i ≡ Some way → way.proxy ≡ proxy
      → way.generation < (way_by site proxy).generation

-- each site's ways are of the generations of the links to it, and its lost generations rise
pub record IsOfLinks (links : ℕ → LinkState) (site : SiteState) : Type 0 where
  pub rising : IsRising site.lost
  pub each : (proxy : ℕ) → IsOfLink proxy (links proxy) site

abbrev pub HaveOneGeneration : PoolState → Type 0
HaveOneGeneration pool = (place : ℕ) (site : SiteState) → slice_get pool.sites place ≡ Some site → IsOfLinks (λ proxy. link_of pool proxy place) site

-- before a link came up that was never down, no command was sent to its server
abbrev pub HaveNothingBefore : Homes → Order → (ℕ → ℕ → Lane) → Log → Type 0
HaveNothingBefore home order lanes log =
    (proxy place : ℕ) → number_of (drops proxy place) log ≡ 0 → commands_to place (take (lanes proxy place).since (of_proxy home proxy order)) ≡ []

-- The life of each server began at its last restart. A server's entries in each life that has ended are legal.
pub record LivesHold (opening : CacheState) (order : Order) (log : Log) (sites : List SiteState) : Type 0 where
  pub begun : (place : ℕ) → begun_of sites place ≡ taken_before place (number_of (restarts place) log) log
  pub ended : (place life : ℕ) → life < number_of (restarts place) log → IsLegal order place opening (in_life place life log (histories_of sites place))

-- The invariant of a course: in some order the proxies took requests, and commands passed over their links, and its pool and its log
-- agree with both. Each client has a number that its proxy has given, and each site's ways are of the generations of the links to it and of the life
-- that the log has.
pub record CourseHolds (ring : RingState) (opening : CacheState) (c : CourseState) : Type 0 where
  pub order : Order
  pub lanes : ℕ → ℕ → Lane
  pub pool : PoolHolds opening (text_of c) (taken_by c) order lanes c.pool
  pub log : LogHolds ring order (put_out_of c) c.log c.pool
  pub numbered : (proxy : ℕ) → (proxy_at c.pool proxy).admitted ≤ length c.clients
  pub generations : HaveOneGeneration c.pool
  pub nothing_before : HaveNothingBefore (home_of c.pool) order lanes c.log
  pub lives : LivesHold opening order c.log c.pool.sites

-- likewise for a world, whose caches may have their bounds, and whose proxies have the choice for lost commands that it was opened with
pub record WorldHolds (w : WorldState) : Type 0 where
  pub bounds : IsWithinBounds w.budget w.items
  pub losses : (proxy : ℕ) → proxy < length w.course.pool.proxies → (proxy_at w.course.pool proxy).losses ≡ w.losses
  pub course : CourseHolds w.opening (opening_cache w.budget w.items 0) w.course
