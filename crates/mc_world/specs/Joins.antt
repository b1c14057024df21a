-- A server joins a pool, and so the course of a world.
use Rattle.std.specs.Prelude.{ℕ, ◌≡◌, ◌<◌, true, false, List, [], ◌∷◌, ◌++◌, length, replicate}
use Rattle.mc_ring.specs.Rings.{IsRing}
use Rattle.mc_cache.specs.CacheState.{CacheState}
use Rattle.mc_server.specs.ServerState.{with_fresh}
use Rattle.mc_proxy.specs.Joins.{JoinsServer}
use Rattle.mc_proxy.specs.ProxyState.{ProxyState}
use Rattle.mc_world.specs.Pools.{ProxyBecomes}
use Rattle.mc_world.specs.WorldState.{PoolState, SiteState, no_way, proxy_at, with_way}
use Rattle.mc_world.specs.Worlds.{CourseState}
use Rattle.mc_world.specs.declared.logs.Logged.TheVariants.{Joined}

-- a server over an opening cache that has admitted the connection of one of this many proxies, whose link to it is of the first generation
abbrev pub joined_site : CacheState → ℕ → ℕ → SiteState
joined_site opening proxies proxy = record {
  server = with_fresh (record { cache = opening; connections = []; admitted = 0 });
  history = [];
  begun = 0;
  ways = with_way proxy (record { generation = 1; connection = 0; ahead = 0 }) (replicate proxies no_way);
  lost = [];
}

-- a server of this address joins a pool at a proxy that knows all servers, at the last place, over an opening cache: its link is up, and it has
-- admitted a connection for it
pub record ServerJoins (proxy : ℕ) (address : List ℕ) (opening : CacheState) (old new : PoolState) : Type 0 where
  pub inside : proxy < length old.proxies
  pub all : length (proxy_at old proxy).ring.servers ≡ length old.sites
  pub now : ProxyState
  pub joins : JoinsServer address true (length (proxy_at old proxy).ring.servers) (proxy_at old proxy) now
  pub is_ring : IsRing now.ring
  pub proxies : ProxyBecomes proxy now old new
  pub sites : new.sites ≡ old.sites ++ joined_site opening (length old.proxies) proxy ∷ []

-- a proxy learns a server of the pool, under this address, as that of its next place: its link is down
pub record LearnsServer (proxy : ℕ) (address : List ℕ) (old new : PoolState) : Type 0 where
  pub inside : proxy < length old.proxies
  pub more : length (proxy_at old proxy).ring.servers < length old.sites
  pub now : ProxyState
  pub joins : JoinsServer address false (length (proxy_at old proxy).ring.servers) (proxy_at old proxy) now
  pub is_ring : IsRing now.ring
  pub proxies : ProxyBecomes proxy now old new
  pub sites : new.sites ≡ old.sites

-- a server joins in the course of a world: the log has it, and the clients stay
pub record HasServerJoined (proxy : ℕ) (address : List ℕ) (opening : CacheState) (old new : CourseState) : Type 0 where
  pub pool : ServerJoins proxy address opening old.pool new.pool
  pub clients : new.clients ≡ old.clients
  pub log : new.log ≡ old.log ++ Joined proxy (length (proxy_at old.pool proxy).ring.servers) address true ∷ []

-- a proxy learns a server in the course of a world: likewise
pub record HasLearnedServer (proxy : ℕ) (address : List ℕ) (old new : CourseState) : Type 0 where
  pub pool : LearnsServer proxy address old.pool new.pool
  pub clients : new.clients ≡ old.clients
  pub log : new.log ≡ old.log ++ Joined proxy (length (proxy_at old.pool proxy).ring.servers) address false ∷ []
