-- When an event applies to a pool: if it does not, nothing happens.
use Rattle.std.specs.Prelude.{ℕ, ◌≡◌, ◌≢◌, ◌-◌, ◌^◌, ◌<◌, ◌==◌, ◌&&◌, Bool, true, List, length, Option, None, Some, position, slice_get}
use Rattle.mc_link.specs.LinkState.{can_come_back}
use Rattle.mc_link.specs.Turns.{HasReply}
use Rattle.mc_server.specs.ServerState.{ServerState, connection_at, output_of}
use Rattle.mc_server.specs.Turns.{waiting_of}
use Rattle.mc_server.specs.declared.servers.TheConstants.{MAX_CONNECTIONS}
use Rattle.mc_proxy.specs.ProxyState.{output_of as output_at}
use Rattle.mc_proxy.specs.Turns.{CanTurn, HasAnswer}
use Rattle.mc_world.specs.WorldState.{PoolState, SiteState, StaleState, link_of, proxy_at, proxy_of, session_of, way_by}

-- bytes can be moved: some exist, and some are asked for
abbrev pub CanMove : ℕ → List ℕ → Type 0
CanMove count bytes = (0 < count) × (0 < length bytes)

-- a client has not gone
abbrev pub IsThere : ℕ → PoolState → Type 0
IsThere client pool = session_of pool client ≢ None

-- a client sends bytes: it has not gone, and sends at least one
abbrev pub CanHear : ℕ → List ℕ → PoolState → Type 0
CanHear client piece pool = IsThere client pool × (0 < length piece)

-- the proxy takes a request of a client: a whole one has arrived, and no high-water mark is reached
abbrev pub CanTakeRequest : ℕ → PoolState → Type 0
CanTakeRequest client pool = CanTurn client (proxy_of pool client)

-- an answer is emitted to a client: the outcome of each command of its oldest unanswered request is known
abbrev pub CanPutAnswer : ℕ → PoolState → Type 0
CanPutAnswer client pool = HasAnswer client (proxy_of pool client)

-- a client takes bytes of those that were emitted to it
abbrev pub CanTakeBytes : ℕ → ℕ → PoolState → Type 0
CanTakeBytes client count pool = CanMove count (output_at (session_of pool client))

-- the link of a proxy to a server is up
abbrev pub IsUp : ℕ → ℕ → PoolState → Type 0
IsUp proxy place pool = (link_of pool proxy place).up ≡ true

-- bytes arrive at a server: its link is up, and has some for it
abbrev pub CanReachServer : ℕ → ℕ → ℕ → PoolState → Type 0
CanReachServer proxy place count pool = IsUp proxy place pool × CanMove count (link_of pool proxy place).output

-- a server takes a request of the living generation: its link is up, and a whole request has arrived
pub record CanServe (proxy place : ℕ) (pool : PoolState) : Type 0 where
  pub site : SiteState
  pub at : slice_get pool.sites place ≡ Some site
  pub up : IsUp proxy place pool
  pub waits : 0 < length (waiting_of (connection_at site.server (way_by site proxy).connection))

-- bytes arrive at the proxy: the link is up, and the server has some for it
pub record CanReachProxy (proxy place count : ℕ) (pool : PoolState) : Type 0 where
  pub site : SiteState
  pub at : slice_get pool.sites place ≡ Some site
  pub up : IsUp proxy place pool
  pub moves : CanMove count (output_of (connection_at site.server (way_by site proxy).connection))

-- the proxy takes a reply: the link is up, and a whole reply to the oldest pending command has arrived
abbrev pub CanTakeReply : ℕ → ℕ → PoolState → Type 0
CanTakeReply proxy place pool = IsUp proxy place pool × HasReply (link_of pool proxy place)

-- a server can admit a connection
abbrev pub CanAdmit : ServerState → Type 0
CanAdmit server = (length server.connections < MAX_CONNECTIONS) × (server.admitted ≢ 2 ^ 64 - 1)

-- a proxy's link comes up again: it has one, which is down, a generation is left, and its server can admit a connection
pub record CanReturn (proxy place : ℕ) (pool : PoolState) : Type 0 where
  pub site : SiteState
  pub at : slice_get pool.sites place ≡ Some site
  pub inside : place < length (proxy_at pool proxy).links
  pub can : can_come_back (link_of pool proxy place) ≡ true
  pub admits : CanAdmit site.server

-- whether a lost generation is of this proxy and number
abbrev pub is_way : ℕ → ℕ → StaleState → Bool
is_way proxy generation way = (way.proxy == proxy) && (way.generation == generation)

-- the index of a lost generation of a proxy among those that are not ended: the first of its number
abbrev pub lost_way : ℕ → ℕ → List StaleState → Option ℕ
lost_way proxy generation ways = position (is_way proxy generation) ways

-- a server has a lost generation of this proxy and number whose end it has not seen
pub record HasLost (proxy place generation : ℕ) (pool : PoolState) : Type 0 where
  pub site : SiteState
  pub at : slice_get pool.sites place ≡ Some site
  pub i : ℕ
  pub first : lost_way proxy generation site.lost ≡ Some i
  pub way : StaleState
  pub way_at : slice_get site.lost i ≡ Some way

-- bytes of it arrive: some are on their way
pub record CanReachLate (proxy place generation count : ℕ) (pool : PoolState) : Type 0 where
  pub there : HasLost proxy place generation pool
  pub moves : CanMove count there.way.going

-- its server takes a request of it: a whole one has arrived
pub record CanServeLate (proxy place generation : ℕ) (pool : PoolState) : Type 0 where
  pub there : HasLost proxy place generation pool
  pub waits : 0 < length (waiting_of (connection_at there.site.server there.way.connection))

-- a generation of a proxy's link lives: the link is up
pub record Lives (proxy place generation : ℕ) (pool : PoolState) : Type 0 where
  pub site : SiteState
  pub at : slice_get pool.sites place ≡ Some site
  pub is : (way_by site proxy).generation ≡ generation
  pub up : IsUp proxy place pool
