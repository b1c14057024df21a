-- Which requests a session's turns can take.
use Rattle.std.specs.Prelude.{ℕ, ◌≡◌, Bool, false, List, [], ◌∷◌}
use Rattle.mc_request.specs.declared.parts.Parsed.{Parsed}
use Rattle.mc_request_reader.specs.Reader.{rest_of}
use Rattle.mc_ring.specs.Rings.{RingState}
use Rattle.mc_route.specs.Looks.{goes_to}
use Rattle.mc_route.specs.Routes.{route_of_taken}
use Rattle.mc_link.specs.LinkState.{LinkState}
use Rattle.mc_proxy.specs.SessionState.{SessionState}
use Rattle.mc_proxy.specs.Sending.{is_marked}

-- the first request or fault of the session's rest has arrived whole, and it reaches no mark
pub record IsReady (ring : RingState) (links : List LinkState) (session : SessionState) : Type 0 where
  pub what : Parsed
  pub others : List Parsed
  pub first : rest_of session.reader [] ≡ what ∷ others
  pub unmarked : is_marked session links (route_of_taken ring what) ≡ false

-- whether the first waiting request or fault has a command for the server at a place
abbrev pub waits_for : RingState → ℕ → List Parsed → Bool
waits_for ring place [] = false
waits_for ring place (what ∷ others) = goes_to place (route_of_taken ring what)
