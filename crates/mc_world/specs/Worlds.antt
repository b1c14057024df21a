-- A world, as contracts see it, and what can be read of it.
use Rattle.std.specs.Prelude.{ℕ, zero, suc, ◌+◌, List, [], ◌∷◌, ◌++◌, length, replicate, slice_index_or, slice_set, sum}
use Rattle.mc_ring.specs.Rings.{RingState}
use Rattle.mc_route.specs.declared.losses.Losses.{Losses}
use Rattle.mc_route.specs.declared.losses.Losses.TheVariants.{Told}
use Rattle.mc_link.specs.LinkState.{up_link}
use Rattle.mc_proxy.specs.SessionState.{fresh_session}
use Rattle.mc_proxy.specs.ProxyState.{ProxyState, Sessions, output_of}
use Rattle.mc_cache.specs.CacheState.{CacheState, opening_cache}
use Rattle.mc_server.specs.ServerState.{ServerState, with_fresh}
use Rattle.mc_history.specs.declared.entries.Entry.{Entry}
use Rattle.mc_world.specs.Logs.{Log}
use Rattle.mc_world.specs.WorldState.{PoolState, SiteState, WayState, histories_of, session_of}

-- a client: the bytes that it sent, and those that it took; a client that goes takes all that were emitted
pub record ClientState : Type 0 where
  pub text : List ℕ
  pub taken : List ℕ

-- the course of a world: its pool, its clients by the numbers of their sessions, and the log of what was done
pub record CourseState : Type 0 where
  pub pool : PoolState
  pub clients : List ClientState
  pub log : Log

-- a world: its course, and what it was opened with: the choice for lost commands, the ring, and the bounds of each server's cache
pub record WorldState : Type 0 where
  pub course : CourseState
  pub losses : Losses
  pub opening : RingState
  pub budget : ℕ
  pub items : ℕ

-- a client that sent and took nothing; a number without a client has this one
abbrev pub nobody : ClientState
nobody = record { text = []; taken = [] }

abbrev pub client_at : List ClientState → ℕ → ClientState
client_at clients number = slice_index_or clients number nobody

abbrev pub with_client : ℕ → ClientState → List ClientState → List ClientState
with_client number client clients = slice_set clients number client

-- the text of a client, the bytes that it took, and all that were emitted to it, including those that it has not taken
abbrev pub text_of : CourseState → ℕ → List ℕ
text_of c client = (client_at c.clients client).text

abbrev pub taken_by : CourseState → ℕ → List ℕ
taken_by c client = (client_at c.clients client).taken

abbrev pub put_out_of : CourseState → ℕ → List ℕ
put_out_of c client = taken_by c client ++ output_of (session_of c.pool client)

-- the history of a server
abbrev pub history_of : CourseState → ℕ → List Entry
history_of c place = histories_of c.pool.sites place

-- the cache with which each server begins
abbrev pub cache_of : WorldState → CacheState
cache_of w = opening_cache w.budget w.items 0

-- this many sessions that were just admitted, by their numbers, from one on
abbrev pub fresh_sessions : ℕ → ℕ → Sessions
fresh_sessions from zero = []
fresh_sessions from (suc more) = (from, fresh_session) ∷ fresh_sessions (suc from) more

-- the proxy of each client, by how many clients each proxy has: those of the first of these proxies, which has this number, come first
abbrev pub homes_from : ℕ → List ℕ → List ℕ
homes_from proxy [] = []
homes_from proxy (clients ∷ more) = replicate clients proxy ++ homes_from (suc proxy) more

-- a proxy that has admitted this many clients, the first under this number, and whose links are all up. Sessions have their clients' numbers: the
-- sessions before were those of clients that left at once
abbrev pub opening_proxy : Losses → RingState → ℕ → ℕ → ProxyState
opening_proxy losses ring first clients = record {
  losses = losses;
  ring = ring;
  sessions = fresh_sessions first clients;
  admitted = first + clients;
  links = replicate (length ring.servers) (up_link 1);
}

-- a proxy for each of these numbers of clients, the first of all under this number
abbrev pub opening_proxies : Losses → RingState → ℕ → List ℕ → List ProxyState
opening_proxies losses ring first [] = []
opening_proxies losses ring first (clients ∷ more) = opening_proxy losses ring first clients ∷ opening_proxies losses ring (first + clients) more

-- a server over a cache that has admitted this many connections, and nothing else
abbrev pub admitting : CacheState → ℕ → ServerState
admitting cache zero = record { cache = cache; connections = []; admitted = 0 }
admitting cache (suc more) = with_fresh (admitting cache more)

-- the ways of this many proxies whose links are of the first generation, over connections from one on
abbrev pub first_ways : ℕ → ℕ → List WayState
first_ways from zero = []
first_ways from (suc more) = (record { generation = 1; connection = from; ahead = 0 }) ∷ first_ways (suc from) more

-- a server over an opening cache that has admitted the connection of each of this many proxies, whose links to it are of the first generation
abbrev pub first_site : CacheState → ℕ → SiteState
first_site opening proxies = record {
  server = admitting opening proxies;
  history = [];
  begun = 0;
  ways = first_ways 0 proxies;
  lost = [];
}

-- a pool in which nothing has happened: proxies of these numbers of clients, and a server at each place of the ring
abbrev pub opening_pool : Losses → CacheState → RingState → List ℕ → PoolState
opening_pool losses opening ring clients = record {
  homes = homes_from 0 clients;
  proxies = opening_proxies losses ring 0 clients;
  sites = replicate (length ring.servers) (first_site opening (length clients));
}

-- a world in which nothing has happened, with a choice for lost commands, and a proxy for each of these numbers of clients; an opening world has one
-- proxy, and the choice `Told`
abbrev pub world_opened : Losses → RingState → List ℕ → ℕ → ℕ → WorldState
world_opened losses ring clients budget items = record {
  course = record {
    pool = opening_pool losses (opening_cache budget items 0) ring clients;
    clients = replicate (sum clients) nobody;
    log = [];
  };
  losses = losses;
  opening = ring;
  budget = budget;
  items = items;
}

abbrev pub opening_world : RingState → ℕ → ℕ → ℕ → WorldState
opening_world ring clients budget items = world_opened Told ring (clients ∷ []) budget items
