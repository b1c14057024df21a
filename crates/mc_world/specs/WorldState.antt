-- A world, as contracts see it.
use Rattle.std.specs.Prelude.{ℕ, zero, suc, ◌≡◌, ◌<◌, List, [], ◌∷◌, Option, Some, slice_get, slice_index_or, slice_set}
use Rattle.mc_route.specs.declared.losses.Losses.TheVariants.{Told}
use Rattle.mc_link.specs.LinkState.{LinkState}
use Rattle.mc_link.specs.declared.turns.Tag.{Tag}
use Rattle.mc_server.specs.ServerState.{ServerState}
use Rattle.mc_proxy.specs.ProxyState.{ProxyState, opened, session_at}
use Rattle.mc_proxy.specs.SessionState.{SessionState, link_at}
use Rattle.mc_history.specs.declared.entries.Entry.{Entry}
use Rattle.mc_world.specs.Homes.{home_in}
use Rattle.mc_world.specs.declared.ways.Way.{Way}

-- a lost generation whose end its server has not seen: its proxy, its number, the number of the server's connection, the bytes on their way, and the tags
-- of the commands that the server has not taken
pub record StaleState : Type 0 where
  pub proxy : ℕ
  pub generation : ℕ
  pub connection : ℕ
  pub going : List ℕ
  pub untaken : List Tag

-- the generations of each proxy's rise
abbrev pub IsRising : List StaleState → Type 0
IsRising ways =
    (i j : ℕ) (v w : StaleState) → slice_get ways i ≡ Some v → slice_get ways j ≡ Some w → i < j → v.proxy ≡ w.proxy → v.generation < w.generation

-- the way of a proxy to a server
abbrev pub WayState : Type 0
WayState = Way

-- a link that has not been up
abbrev pub no_way : WayState
no_way = record { generation = 0; connection = 0; ahead = 0 }

-- a server with its ways: what it took in all its lives, and how many requests before this one; the way of each proxy, by its number; and the lost
-- generations, in the order in which they were lost
pub record SiteState : Type 0 where
  pub server : ServerState
  pub history : List Entry
  pub begun : ℕ
  pub ways : List WayState
  pub lost : List StaleState

-- the way of a proxy; a way that has not been up if there is none
abbrev pub way_by : SiteState → ℕ → WayState
way_by site proxy = slice_index_or site.ways proxy no_way

-- the ways, with this one of a proxy
abbrev pub with_way : ℕ → WayState → List WayState → List WayState
with_way proxy way ways = slice_set ways proxy way

-- the proxy of each client, the proxies, and the servers by place
pub record PoolState : Type 0 where
  pub homes : List ℕ
  pub proxies : List ProxyState
  pub sites : List SiteState

-- a proxy of no servers, which has admitted no client
abbrev pub no_proxy : ProxyState
no_proxy = opened Told (record { servers = []; points = [] })

-- the proxy of a number; one of no servers if there is none
abbrev pub proxy_in : List ProxyState → ℕ → ProxyState
proxy_in proxies proxy = slice_index_or proxies proxy no_proxy

abbrev pub proxy_at : PoolState → ℕ → ProxyState
proxy_at pool proxy = proxy_in pool.proxies proxy

-- the proxies, with this one at a number
abbrev pub with_proxy : ℕ → ProxyState → List ProxyState → List ProxyState
with_proxy proxy state proxies = slice_set proxies proxy state

-- the proxy of a client, and its state
abbrev pub home_of : PoolState → ℕ → ℕ
home_of pool client = home_in pool.homes client

abbrev pub proxy_of : PoolState → ℕ → ProxyState
proxy_of pool client = proxy_at pool (home_of pool client)

-- the session of a client, if it is open
abbrev pub session_of : PoolState → ℕ → Option SessionState
session_of pool client = session_at (proxy_of pool client) client

-- the link of a proxy to a server; a link that is down if there is none
abbrev pub link_of : PoolState → ℕ → ℕ → LinkState
link_of pool proxy place = link_at (proxy_at pool proxy).links place

-- the histories of servers by their places: empty if there is no server
abbrev pub histories_of : List SiteState → ℕ → List Entry
histories_of [] place = []
histories_of (site ∷ sites) zero = site.history
histories_of (site ∷ sites) (suc place) = histories_of sites place

-- how many requests they took before their lives began: none if there is no server
abbrev pub begun_of : List SiteState → ℕ → ℕ
begun_of [] place = 0
begun_of (site ∷ sites) zero = site.begun
begun_of (site ∷ sites) (suc place) = begun_of sites place
