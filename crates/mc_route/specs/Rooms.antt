-- How much room an answer may need, by the outcomes of a request's commands.
use Rattle.std.specs.Prelude.{ℕ, ◌+◌, List, [], ◌∷◌}
use Rattle.mc_request.specs.declared.parts.Request.{Request}
use Rattle.mc_reply.specs.MetaRooms.{part_room}
use Rattle.mc_reply.specs.Seen.{value_len}
use Rattle.mc_reply.specs.declared.answers.TheConstants.{KEY_ROOM}
use Rattle.mc_route.specs.declared.outcomes.Outcome.{Outcome}
use Rattle.mc_route.specs.declared.outcomes.Outcome.TheVariants as outcomes

-- the most that a command adds: the value that its reply shows, and `KEY_ROOM` bytes beside it
abbrev pub outcome_room : Outcome → ℕ
outcome_room (outcomes.Reply reply) = value_len reply + KEY_ROOM
outcome_room outcome = 0

abbrev pub outcomes_room : List Outcome → ℕ
outcomes_room [] = 0
outcomes_room (outcome ∷ others) = outcome_room outcome + outcomes_room others

-- the most that a whole answer has: the part of each command, and the rest of its lines and end
-- source: this project's own
abbrev pub join_room : Request → List Outcome → ℕ
join_room request outcomes = outcomes_room outcomes + part_room request
