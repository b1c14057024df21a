-- What a call of a session does.
use Rattle.std.specs.Prelude.{ℕ, ◌≡◌, ◌+◌, true, false, List, [], ◌∷◌, ◌++◌, map}
use Rattle.mc_request.specs.declared.parts.Parsed.{Parsed}
use Rattle.mc_request_reader.specs.Peeks.{IsFirst, HasNone}
use Rattle.mc_request_reader.specs.Reader.{rest_of}
use Rattle.mc_request.specs.Requests.{ends}
use Rattle.mc_ring.specs.Rings.{RingState}
use Rattle.mc_route.specs.Kept.{kept_of}
use Rattle.mc_route.specs.Routes.{route_of_taken}
use Rattle.mc_route.specs.declared.losses.Losses.{Losses}
use Rattle.mc_link.specs.LinkState.{LinkState}
use Rattle.mc_proxy.specs.SessionState.{SessionState}
use Rattle.mc_proxy.specs.Sending.{at_once, handed, is_marked}
use Rattle.mc_proxy.specs.declared.session_turns.SessionTurn.{SessionTurn}
use Rattle.mc_proxy.specs.declared.session_turns.SessionTurn.TheVariants.{Took, Idle, Waiting, Closing}

-- a piece of a session's text has arrived; if the session is closed to input, it is dropped
pub record IsFed (piece : List ℕ) (before after : SessionState) : Type 0 where
  pub rest : (text : List ℕ) → rest_of after.reader text ≡ rest_of before.reader (piece ++ text)
  pub closed : after.reader.closed ≡ before.reader.closed
  pub after_end : before.reader.closed ≡ true → after ≡ before
  pub all_else : after ≡ record before { reader = after.reader }

-- the first request or fault of the session's rest is taken, and no mark is reached; its commands go to the links of their
-- owners, in their order, and it is the last unanswered one, with this choice for its lost commands
pub record Takes (number : ℕ) (ring : RingState) (losses : Losses) (links now : List LinkState) (before after : SessionState) (what : Parsed) : Type 0 where
  pub first : IsFirst before.reader what after.reader
  pub closed : after.reader.closed ≡ ends what
  pub unmarked : is_marked before links (route_of_taken ring what) ≡ false
  pub output : after.output ≡ before.output
  pub taken : after.taken ≡ before.taken + 1
  pub unanswered : after.unanswered
      ≡ before.unanswered ++ record { what = kept_of what; losses = losses; outcomes = map (at_once links) (route_of_taken ring what) } ∷ []
  pub sent : now ≡ handed number before.taken 0 (route_of_taken ring what) links

-- the first request or fault of the session's rest reaches a mark
pub record IsHeldUp (ring : RingState) (links : List LinkState) (session : SessionState) : Type 0 where
  pub what : Parsed
  pub others : List Parsed
  pub first : rest_of session.reader [] ≡ what ∷ others
  pub marked : is_marked session links (route_of_taken ring what) ≡ true

-- nothing changes
abbrev pub IsUnchanged : List LinkState → List LinkState → SessionState → SessionState → Type 0
IsUnchanged links now before after = (now ≡ links) × (after ≡ before)

-- what a turn of the session of a number does, over the links of a ring
abbrev pub IsTurn : ℕ → SessionTurn → RingState → Losses → List LinkState → List LinkState → SessionState → SessionState → Type 0
IsTurn number Took ring losses links now before after = (what : Parsed) × Takes number ring losses links now before after what
IsTurn number Idle ring losses links now before after = HasNone before.reader before.reader × IsUnchanged links now before after
IsTurn number Waiting ring losses links now before after = IsHeldUp ring links before × IsUnchanged links now before after
IsTurn number Closing ring losses links now before after = (before.reader.closed ≡ true) × IsUnchanged links now before after
