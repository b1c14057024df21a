-- The requests that a proxy took, in order, and their outcomes.
use Rattle.std.specs.Prelude.{ℕ, suc, ◌≡◌, ◌==◌, ◌&&◌, Bool, List, [], ◌∷◌, ◌++◌, length, map, if◌then◌else◌}
use Rattle.std.specs.List.{list_all}
use Rattle.mc_request.specs.declared.parts.Atom.{Atom}
use Rattle.mc_request.specs.declared.parts.Parsed.{Parsed}
use Rattle.mc_ring.specs.Rings.{RingState}
use Rattle.mc_route.specs.Kept.{kept_of}
use Rattle.mc_route.specs.Routes.{route_of_taken}
use Rattle.mc_route.specs.declared.losses.Losses.{Losses}
use Rattle.mc_route.specs.declared.outcomes.Outcome.{Outcome}
use Rattle.mc_route.specs.declared.routes.Routed.{Routed}
use Rattle.mc_link.specs.declared.turns.Tag.{Tag}
use Rattle.mc_proxy.specs.Emits.{answer_by, is_noted}
use Rattle.mc_proxy.specs.SessionNoting.{set_outcome}
use Rattle.mc_proxy.specs.Sending.{tag_of}
use Rattle.mc_proxy.specs.SessionState.{Unanswered}

-- a request or fault that was taken: its session, its number there, the request itself, the ring by which it was routed,
-- the choice for its lost commands, and the outcomes of its commands so far
pub record TakenRequest : Type 0 where
  pub session : ℕ
  pub request : ℕ
  pub what : Parsed
  pub ring : RingState
  pub losses : Losses
  pub outcomes : List Outcome

-- all that was taken, in one order, the oldest first
abbrev pub Order : Type 0
Order = List TakenRequest

-- what was taken of a session
abbrev pub entries_of : ℕ → Order → Order
entries_of session [] = []
entries_of session (e ∷ es) = if e.session == session then e ∷ entries_of session es else entries_of session es

abbrev pub taken_of : ℕ → Order → List Parsed
taken_of session order = map (λ e. e.what) (entries_of session order)

-- a number of consecutive numbers, from one on
abbrev pub numbers_from : ℕ → List TakenRequest → List ℕ
numbers_from at [] = []
numbers_from at (e ∷ es) = at ∷ numbers_from (suc at) es

-- the requests of a session are numbered in their order, from 0 on
abbrev pub AreInOrder : Order → Type 0
AreInOrder mine = map (λ e. e.request) mine ≡ numbers_from 0 mine

-- a command with its tag
abbrev pub Tagged : Type 0
Tagged = Atom (List ℕ) × Tag

-- the commands of a request to the server at a place, in order; the first of all its commands has this number
abbrev pub commands_from : ℕ → ℕ → ℕ → ℕ → List Routed → List Tagged
commands_from place session request at [] = []
commands_from place session request at (command ∷ commands) =
    if command.server == place then (command.atom, tag_of session request at) ∷ commands_from place session request (suc at) commands
    else commands_from place session request (suc at) commands

abbrev pub commands_in : ℕ → TakenRequest → List Tagged
commands_in place e = commands_from place e.session e.request 0 (route_of_taken e.ring e.what)

-- the outcomes of those commands
abbrev pub outcomes_from : ℕ → List Routed → List Outcome → List Outcome
outcomes_from place [] outcomes = []
outcomes_from place (command ∷ commands) [] = []
outcomes_from place (command ∷ commands) (outcome ∷ outcomes) =
    if command.server == place then outcome ∷ outcomes_from place commands outcomes else outcomes_from place commands outcomes

abbrev pub outcomes_in : ℕ → TakenRequest → List Outcome
outcomes_in place e = outcomes_from place (route_of_taken e.ring e.what) e.outcomes

-- the commands of an order to the server at a place, in that order, and their outcomes
abbrev pub commands_to : ℕ → Order → List Tagged
commands_to place [] = []
commands_to place (e ∷ es) = commands_in place e ++ commands_to place es

abbrev pub outcomes_to : ℕ → Order → List Outcome
outcomes_to place [] = []
outcomes_to place (e ∷ es) = outcomes_in place e ++ outcomes_to place es

-- each command has its outcome
abbrev pub IsSized : TakenRequest → Type 0
IsSized e = length e.outcomes ≡ length (route_of_taken e.ring e.what)

-- an entry's lost commands are answered by this choice
abbrev pub HasChoice : Losses → TakenRequest → Type 0
HasChoice losses e = e.losses ≡ losses

-- whether the outcome of each command of an entry is known
abbrev pub is_complete : TakenRequest → Bool
is_complete e = list_all is_noted e.outcomes

-- whether a tag is of a command of an entry
abbrev pub owns : Tag → TakenRequest → Bool
owns tag e = (e.session == tag.session) && (e.request == tag.request)

-- the outcome of a command, noted in its entry
abbrev pub note_in : Tag → Outcome → TakenRequest → TakenRequest
note_in tag outcome e = record e {
  outcomes = if owns tag e then set_outcome tag.atom outcome e.outcomes else e.outcomes;
}

abbrev pub note : Tag → Outcome → Order → Order
note tag outcome order = map (note_in tag outcome) order

abbrev pub note_all : List Tag → Outcome → Order → Order
note_all [] outcome order = order
note_all (tag ∷ tags) outcome order = note_all tags outcome (note tag outcome order)

-- an entry as its session keeps it until it is answered
abbrev pub unanswered_of : TakenRequest → Unanswered
unanswered_of e = record { what = kept_of e.what; losses = e.losses; outcomes = e.outcomes }

-- the answers to entries, joined
abbrev pub answers_of : Order → List ℕ
answers_of [] = []
answers_of (e ∷ es) = answer_by e.losses e.what e.outcomes ++ answers_of es
