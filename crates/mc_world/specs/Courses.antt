-- What an event does to the course of a world.
use Rattle.std.specs.Prelude.{ℕ, ◌≡◌, ◌<◌, ◌^◌, ◌⊎◌, true, List, [], ◌∷◌, ◌++◌, length, take, Some, All}
use Rattle.mc_proxy.specs.SessionState.{SessionState}
use Rattle.mc_proxy.specs.ProxyState.{output_of}
use Rattle.mc_world.specs.Bare.{bare}
use Rattle.mc_world.specs.Applies.{CanHear, CanPutAnswer, CanReachLate, CanReachProxy, CanReachServer, CanReturn, CanServe, CanServeLate, CanTakeBytes, CanTakeReply, CanTakeRequest, HasLost, IsThere, IsUp, Lives, is_way}
use Rattle.mc_world.specs.Serving.{PoolServes}
use Rattle.mc_world.specs.Pools.{ClientGoes, EndSeen, HearsClient, LateBytes, LateTurn, LinkReturns, LosesLink, PutsAnswer, ReachesProxy, ReachesServer, ServerTakes, TakesBytes, TakesReply, TakesRequest}
use Rattle.mc_world.specs.WorldState.{PoolState, session_of, way_by}
use Rattle.mc_world.specs.Worlds.{ClientState, CourseState, client_at, with_client}
use Rattle.mc_world.specs.declared.events.Event.{Event}
use Rattle.mc_world.specs.declared.events.Event.TheVariants.{ClientBytes, ClientGone, ClientTakes, Emit, LinkBack, LinkLost, ProxyTurn, ReplyTurn, ServerSeesEnd, ServerTurn, ToProxy, ToServer}
use Rattle.mc_world.specs.declared.logs.Logged.TheVariants.{Happened}

-- bytes of a generation arrive at its server: of the living one from its link, of a lost one the first of those on their way
abbrev pub BytesArrive : ℕ → ℕ → ℕ → ℕ → PoolState → PoolState → Type 0
BytesArrive proxy server generation count old new =
    ((h : ReachesServer proxy server count old new) × ((way_by h.there.site proxy).generation ≡ generation))
    ⊎ ((i : ℕ) × (h : LateBytes server i count old new) × (is_way proxy generation h.arrives.way ≡ true) × (Lives proxy server generation old → ⊥))

-- a server takes a request of a generation, living or lost
abbrev pub RequestIsServed : ℕ → ℕ → ℕ → ℕ → PoolState → PoolState → Type 0
RequestIsServed proxy server generation moment old new =
    ((h : ServerTakes proxy server moment old new) × ((way_by h.there.site proxy).generation ≡ generation))
    ⊎ ((i : ℕ) × (h : LateTurn server i moment old new) × (is_way proxy generation h.enters.way ≡ true) × (Lives proxy server generation old → ⊥))

-- the session of a client is open
abbrev pub IsOpen : ℕ → PoolState → Type 0
IsOpen client pool = (session : SessionState) × (session_of pool client ≡ Some session)

-- what an event does to a pool
abbrev pub Happens : Event (List ℕ) → PoolState → PoolState → Type 0
Happens (ClientBytes client bytes) old new = All (λ b. b < 256) bytes × HearsClient client bytes old new
Happens (ClientGone client) old new = IsOpen client old × ClientGoes client old new
Happens (ProxyTurn client) old new = TakesRequest client old new
Happens (ToServer proxy server generation count) old new = BytesArrive proxy server generation count old new
Happens (ServerTurn proxy server generation moment) old new = (moment < 2 ^ 63) × RequestIsServed proxy server generation moment old new
Happens (ToProxy proxy server count) old new = ReachesProxy proxy server count old new
Happens (ReplyTurn proxy server) old new = TakesReply proxy server old new
Happens (Emit client) old new = PutsAnswer client old new
Happens (ClientTakes client count) old new = IsOpen client old × TakesBytes client count old new
Happens (LinkLost proxy server) old new = LosesLink proxy server old new
Happens (LinkBack proxy server) old new = LinkReturns proxy server old new
Happens (ServerSeesEnd proxy server generation) old new = (i : ℕ) × (h : EndSeen server i old new) × (is_way proxy generation h.ends.way ≡ true)

-- what an event does to the clients: one has sent more bytes; one took the first bytes that were emitted to it, or, when it goes, all
abbrev pub clients_after : Event (List ℕ) → PoolState → List ClientState → List ClientState
clients_after (ClientBytes client bytes) pool clients =
    with_client client (record (client_at clients client) { text = (client_at clients client).text ++ bytes }) clients
clients_after (ClientTakes client count) pool clients =
    with_client client (record (client_at clients client) { taken = (client_at clients client).taken ++ take count (output_of (session_of pool client)) }) clients
clients_after (ClientGone client) pool clients =
    with_client client (record (client_at clients client) { taken = (client_at clients client).taken ++ output_of (session_of pool client) }) clients
clients_after other pool clients = clients

-- an event happens to a course, whose log does not have it yet
pub record HappensTo (event : Event (List ℕ)) (old new : CourseState) : Type 0 where
  pub pool : Happens event old.pool new.pool
  pub clients : new.clients ≡ clients_after event old.pool old.clients
  pub log : new.log ≡ old.log

-- an event is done: it happens in the pool, and the log has it
pub record IsDone (event : Event (List ℕ)) (old new : CourseState) : Type 0 where
  pub pool : Happens event old.pool new.pool
  pub clients : new.clients ≡ clients_after event old.pool old.clients
  pub log : new.log ≡ old.log ++ Happened (bare event) ∷ []

-- one of two cases, by whether a generation lives
abbrev pub ByWay : ℕ → ℕ → ℕ → PoolState → Type 0 → Type 0 → Type 0
ByWay proxy server generation pool living late =
    (Lives proxy server generation pool × living) ⊎ ((Lives proxy server generation pool → ⊥) × late)

-- an event applies to a pool
abbrev pub Applies : Event (List ℕ) → PoolState → Type 0
Applies (ClientBytes client bytes) pool = CanHear client bytes pool
Applies (ClientGone client) pool = IsThere client pool
Applies (ProxyTurn client) pool = CanTakeRequest client pool
Applies (ToServer proxy server generation count) pool =
    ByWay proxy server generation pool (CanReachServer proxy server count pool) (CanReachLate proxy server generation count pool)
Applies (ServerTurn proxy server generation moment) pool =
    (moment < 2 ^ 63) × ByWay proxy server generation pool (CanServe proxy server pool) (CanServeLate proxy server generation pool)
Applies (ToProxy proxy server count) pool = CanReachProxy proxy server count pool
Applies (ReplyTurn proxy server) pool = CanTakeReply proxy server pool
Applies (Emit client) pool = CanPutAnswer client pool
Applies (ClientTakes client count) pool = CanTakeBytes client count pool
Applies (LinkLost proxy server) pool = IsUp proxy server pool
Applies (LinkBack proxy server) pool = CanReturn proxy server pool
Applies (ServerSeesEnd proxy server generation) pool = HasLost proxy server generation pool

-- The premises of the calls of a course: its servers serve the proxies, and each client with an open session exists.
pub record CourseServes (c : CourseState) : Type 0 where
  pub pool : PoolServes c.pool
  pub clients : (client : ℕ) (session : SessionState) → session_of c.pool client ≡ Some session → client < length c.clients
