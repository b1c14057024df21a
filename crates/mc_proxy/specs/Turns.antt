-- What a call of a session does to the proxy.
use Rattle.std.specs.Prelude.{ℕ, ◌≡◌, ◌≢◌, Bool, false, List, [], Option, Some, None}
use Rattle.mc_request.specs.declared.parts.Parsed.{Parsed}
use Rattle.mc_request_reader.specs.Reader.{rest_of}
use Rattle.mc_link.specs.LinkState.{LinkState}
use Rattle.mc_proxy.specs.Emits.{emitted, hides_loss_first}
use Rattle.mc_proxy.specs.Looks.{IsReady}
use Rattle.mc_proxy.specs.SessionState.{SessionState}
use Rattle.mc_proxy.specs.ProxyState.{ProxyState, session_at, updated}

-- what a session has for its turns to take, if nothing more arrives: nothing if it is not open
abbrev pub waiting_of : Option SessionState → List Parsed
waiting_of None = []
waiting_of (Some session) = rest_of session.reader []

-- a request of a session can be taken: one has arrived whole, and it reaches no mark
abbrev pub CanTurn : ℕ → ProxyState → Type 0
CanTurn number p = (session : SessionState) × (session_at p number ≡ Some session) × IsReady p.ring p.links session

-- an answer can be emitted: the outcome of each command of the session's oldest unanswered request is known
abbrev pub HasAnswer : ℕ → ProxyState → Type 0
HasAnswer number p = (session : SessionState) × (session_at p number ≡ Some session) × (emitted session ≢ None)

-- a command of a session's oldest unanswered request was lost, and its answer does not say so
abbrev pub hides_loss_at : Option SessionState → Bool
hides_loss_at None = false
hides_loss_at (Some session) = hides_loss_first session.unanswered

-- the session of a number takes a step, with the links; all else of the proxy is as it was
pub record Steps (number : ℕ) (old new : ProxyState) (Step : List LinkState → List LinkState → SessionState → SessionState → Type 0) : Type 0 where
  pub before : SessionState
  pub after : SessionState
  pub was : session_at old number ≡ Some before
  pub is : new.sessions ≡ updated number after old.sessions
  pub ring : new.ring ≡ old.ring
  pub losses : new.losses ≡ old.losses
  pub admitted : new.admitted ≡ old.admitted
  pub step : Step old.links new.links before after

-- a step that the links have no part in
abbrev pub Alone : (SessionState → SessionState → Type 0) → List LinkState → List LinkState → SessionState → SessionState → Type 0
Alone Step links now before after = (now ≡ links) × Step before after
