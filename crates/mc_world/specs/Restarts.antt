-- A server of a pool restarts, and so in the course of a world.
use Rattle.std.specs.Prelude.{ℕ, zero, suc, ◌≡◌, ◌⊎◌, List, [], ◌∷◌, ◌++◌, length, map, Some, slice_get, slice_set, if◌then◌else◌}
use Rattle.mc_cache.specs.CacheState.{CacheState}
use Rattle.mc_proxy.specs.LinkTurns.{lost_at}
use Rattle.mc_proxy.specs.ProxyState.{ProxyState}
use Rattle.mc_proxy.specs.SessionState.{link_at}
use Rattle.mc_world.specs.declared.events.Event.TheVariants.{LinkLost}
use Rattle.mc_world.specs.Applies.{IsUp}
use Rattle.mc_world.specs.Courses.{IsDone}
use Rattle.mc_world.specs.WorldState.{PoolState, SiteState, WayState}
use Rattle.mc_world.specs.Worlds.{CourseState}
use Rattle.mc_world.specs.Pools.{ProxiesStay}
use Rattle.mc_world.specs.Logs.{Log}
use Rattle.mc_world.specs.declared.logs.Logged.TheVariants.{Happened, Restarted}

-- a site whose server begins anew over a cache: no connection is open and none was admitted, and its lost generations are gone with
-- their bytes
abbrev pub restarted : CacheState → SiteState → SiteState
restarted opening site = record site {
  server = record { cache = opening; connections = []; admitted = 0 };
  begun = length site.history;
  ways = map (λ (way : WayState). record way { ahead = 0 }) site.ways;
  lost = [];
}

-- a server to which no link is up restarts
pub record ServerRestarts (place : ℕ) (opening : CacheState) (old new : PoolState) : Type 0 where
  pub site : SiteState
  pub at : slice_get old.sites place ≡ Some site
  pub down : (proxy : ℕ) → IsUp proxy place old → ⊥
  pub sites : new.sites ≡ slice_set old.sites place (restarted opening site)
  pub proxies : ProxiesStay old new

-- a proxy whose link to a place is lost, if it was up; and what a log has of that, for proxies of which the first has this number
abbrev pub without_link : ℕ → ProxyState → ProxyState
without_link place p = if (link_at p.links place).up then lost_at place p else p

abbrev pub loss_of : ℕ → ℕ → ProxyState → Log
loss_of place proxy p = if (link_at p.links place).up then Happened (LinkLost proxy place) ∷ [] else []

abbrev pub losses_of : ℕ → ℕ → List ProxyState → Log
losses_of place proxy [] = []
losses_of place proxy (p ∷ ps) = loss_of place proxy p ++ losses_of place (suc proxy) ps

-- a server dies, and begins anew over a cache: each proxy's link to it is lost, if it was up
pub record ServerDies (place : ℕ) (opening : CacheState) (old new : PoolState) : Type 0 where
  pub site : SiteState
  pub at : slice_get old.sites place ≡ Some site
  pub sites : new.sites ≡ slice_set old.sites place (restarted opening site)
  pub proxies : new.proxies ≡ map (without_link place) old.proxies
  pub homes : new.homes ≡ old.homes

-- a proxy's link to a server is lost, if it is up
abbrev pub IsCut : ℕ → ℕ → CourseState → CourseState → Type 0
IsCut proxy place old new = (IsUp proxy place old.pool × IsDone (LinkLost proxy place) old new) ⊎ ((IsUp proxy place old.pool → ⊥) × (new ≡ old))

-- the links of this many proxies to a server, from proxy 0 on, are lost in order, if they are up
abbrev pub AreCut : ℕ → ℕ → CourseState → CourseState → Type 0
AreCut zero place old new = new ≡ old
AreCut (suc proxy) place old new = (mid : CourseState) × AreCut proxy place old mid × IsCut proxy place mid new

-- a server restarts in the course of a world: each proxy's link to it is lost first, if it is up; the log has all, and the clients stay
pub record HasServerRestarted (place : ℕ) (opening : CacheState) (old new : CourseState) : Type 0 where
  pub cut : CourseState
  pub loses : AreCut (length old.pool.proxies) place old cut
  pub pool : ServerRestarts place opening cut.pool new.pool
  pub clients : new.clients ≡ cut.clients
  pub log : new.log ≡ cut.log ++ Restarted place ∷ []
