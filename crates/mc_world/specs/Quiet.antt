-- What is left to do in a pool: this project's own.
use Rattle.std.specs.Prelude.{ℕ, ◌≡◌, Bool, true, false, List, [], length, Some, slice_get}
use Rattle.mc_request.specs.Requests.{requests_of}
use Rattle.mc_server.specs.ServerState.{connection_at, output_of}
use Rattle.mc_proxy.specs.ProxyState.{output_of as output_at}
use Rattle.mc_world.specs.Applies.{IsThere, IsUp}
use Rattle.mc_world.specs.Logs.{number_of, puts}
use Rattle.mc_world.specs.WorldState.{SiteState, link_of, session_of, way_by}
use Rattle.mc_world.specs.Worlds.{CourseState, text_of}
use Rattle.mc_world.specs.declared.events.Event.{Event}
use Rattle.mc_world.specs.declared.events.Event.TheVariants.{ClientBytes, ClientGone, LinkBack, LinkLost}

-- an event of the pool itself: no client sends or goes, and no link is lost or comes up
abbrev pub is_inner : Event (List ℕ) → Bool
is_inner (ClientBytes client bytes) = false
is_inner (ClientGone client) = false
is_inner (LinkLost proxy server) = false
is_inner (LinkBack proxy server) = false
is_inner other = true

-- Nothing is left to do. Each request of a client that has not gone is answered, and the client took all bytes that were emitted. No
-- command is pending on a link, and no bytes are on any way. The end of each lost generation was seen.
pub record IsQuiet (c : CourseState) : Type 0 where
  pub answered : (client : ℕ) → IsThere client c.pool → number_of (puts client) c.log ≡ length (requests_of (text_of c client))
  pub taken : (client : ℕ) → output_at (session_of c.pool client) ≡ []
  pub waiting : (proxy place : ℕ) → (link_of c.pool proxy place).waiting ≡ []
  pub going : (proxy place : ℕ) → (link_of c.pool proxy place).output ≡ []
  pub coming : (proxy place : ℕ) (site : SiteState) → slice_get c.pool.sites place ≡ Some site → IsUp proxy place c.pool
      → output_of (connection_at site.server (way_by site proxy).connection) ≡ []
  pub lost : (place : ℕ) (site : SiteState) → slice_get c.pool.sites place ≡ Some site → site.lost ≡ []
