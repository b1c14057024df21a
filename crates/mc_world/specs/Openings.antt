-- When a world can be opened.
use Rattle.std.specs.Prelude.{ℕ, ◌≡◌, ◌≤◌, List, length, sum}
use Rattle.mc_ring.specs.Rings.{RingState}
use Rattle.mc_cache.specs.CacheState.{IsWithinBounds}
use Rattle.mc_world.specs.declared.worlds.TheConstants.{MAX_CLIENTS, MAX_PROXIES}

-- 1 to `MAX_PROXIES` proxies, at most `MAX_CLIENTS` clients in all, bounds that a cache may have, and a store for each server
pub record CanOpen (ring : RingState) (clients : List ℕ) (budget items stores : ℕ) : Type 0 where
  pub some : 1 ≤ length clients
  pub proxies : length clients ≤ MAX_PROXIES
  pub few : sum clients ≤ MAX_CLIENTS
  pub bounds : IsWithinBounds budget items
  pub each : stores ≡ length ring.servers
