-- What a drain does at a client or at a server.
use Rattle.std.specs.Prelude.{ℕ, ◌≡◌, ◌<◌, Bool, true, false, List, [], length, Option, None, Some, slice_get}
use Rattle.mc_server.specs.ServerState.{connection_at, output_of}
use Rattle.mc_proxy.specs.ProxyState.{output_of as output_at}
use Rattle.mc_world.specs.Courses.{Applies}
use Rattle.mc_world.specs.Drains.{Drains}
use Rattle.mc_world.specs.WorkLeft.{work_left}
use Rattle.mc_world.specs.WorldState.{PoolState, SiteState, StaleState, link_of, session_of, way_by}
use Rattle.mc_world.specs.Worlds.{CourseState, WorldState}
use Rattle.mc_world.specs.declared.acts.Act.{Act}
use Rattle.mc_world.specs.declared.acts.Act.TheVariants.{PutAnswer, ReachProxy, ReachServer, SeeEnd, Serve, TakeBytes, TakeReply, TakeRequest}
use Rattle.mc_world.specs.declared.events.Event.{Event}
use Rattle.mc_world.specs.declared.events.Event.TheVariants.{ClientTakes, Emit, ProxyTurn, ReplyTurn, ServerSeesEnd, ServerTurn, ToProxy, ToServer}

-- the living generation of a proxy's link to a place, the first lost one there with its proxy, and the bytes on their way to that proxy: 0 and none if
-- the place has none
abbrev pub generation_of : ℕ → Option SiteState → ℕ
generation_of proxy None = 0
generation_of proxy (Some site) = (way_by site proxy).generation

abbrev pub first_lost : Option SiteState → Option StaleState
first_lost None = None
first_lost (Some site) = slice_get site.lost 0

abbrev pub lost_proxy : Option StaleState → ℕ
lost_proxy None = 0
lost_proxy (Some way) = way.proxy

abbrev pub lost_generation : Option StaleState → ℕ
lost_generation None = 0
lost_generation (Some way) = way.generation

abbrev pub coming_of : ℕ → Option SiteState → List ℕ
coming_of proxy None = []
coming_of proxy (Some site) = output_of (connection_at site.server (way_by site proxy).connection)

-- the event of an act: it moves all bytes, and is of the living generation, or of the first lost one
abbrev pub event_of : Act → ℕ → PoolState → Event (List ℕ)
event_of (SeeEnd place) moment pool =
    ServerSeesEnd (lost_proxy (first_lost (slice_get pool.sites place))) place (lost_generation (first_lost (slice_get pool.sites place)))
event_of (TakeRequest client) moment pool = ProxyTurn client
event_of (ReachServer proxy place) moment pool =
    ToServer proxy place (generation_of proxy (slice_get pool.sites place)) (length (link_of pool proxy place).output)
event_of (Serve proxy place) moment pool = ServerTurn proxy place (generation_of proxy (slice_get pool.sites place)) moment
event_of (ReachProxy proxy place) moment pool = ToProxy proxy place (length (coming_of proxy (slice_get pool.sites place)))
event_of (TakeReply proxy place) moment pool = ReplyTurn proxy place
event_of (PutAnswer client) moment pool = Emit client
event_of (TakeBytes client) moment pool = ClientTakes client (length (output_at (session_of pool client)))

-- an act does not apply
abbrev pub IsIdle : ℕ → PoolState → Act → Type 0
IsIdle moment pool act = Applies (event_of act moment pool) pool → ⊥

-- none of these acts applies, for any client; for any server; for any link
abbrev pub NoClient : ℕ → (ℕ → Act) → CourseState → Type 0
NoClient moment act c = (client : ℕ) → client < length c.clients → IsIdle moment c.pool (act client)

abbrev pub NoServer : ℕ → (ℕ → Act) → CourseState → Type 0
NoServer moment act c = (place : ℕ) → place < length c.pool.sites → IsIdle moment c.pool (act place)

abbrev pub NoLink : ℕ → (ℕ → ℕ → Act) → CourseState → Type 0
NoLink moment act c =
    (proxy place : ℕ) → proxy < length c.pool.proxies → place < length c.pool.sites → IsIdle moment c.pool (act proxy place)

-- no act applies
pub record IsRested (moment : ℕ) (c : CourseState) : Type 0 where
  pub ends : NoServer moment SeeEnd c
  pub requests : NoClient moment TakeRequest c
  pub going : NoLink moment ReachServer c
  pub served : NoLink moment Serve c
  pub coming : NoLink moment ReachProxy c
  pub replies : NoLink moment TakeReply c
  pub answers : NoClient moment PutAnswer c
  pub taken : NoClient moment TakeBytes c

-- a world after some events of a drain: its opening is as it was
pub record HasDrained (moment : ℕ) (old new : WorldState) : Type 0 where
  pub drains : Drains moment old.course new.course
  pub losses : new.losses ≡ old.losses
  pub opening : new.opening ≡ old.opening
  pub budget : new.budget ≡ old.budget
  pub items : new.items ≡ old.items

-- if a part of a drain did something, less is left to do; otherwise nothing has changed
abbrev pub GoesOn : ℕ → Bool → WorldState → WorldState → Type 0
GoesOn moment true old new = HasDrained moment old new × (work_left new.course.pool < work_left old.course.pool)
GoesOn moment false old new = new ≡ old

-- a part of a drain is over: if it did nothing, this holds
pub record IsOver (moment : ℕ) (Idle : CourseState → Type 0) (did : Bool) (old new : WorldState) : Type 0 where
  pub goes : GoesOn moment did old new
  pub idle : did ≡ false → Idle old.course
