-- The answer to a request whose commands went to several servers.
use Rattle.std.specs.Prelude.{ℕ, Bool, true, false, List, [], ◌∷◌, codes, if◌then◌else◌}
use Rattle.mc_request.specs.declared.parts.Request.{Request}
use Rattle.mc_reply.specs.declared.replies.Reply.{Reply}
use Rattle.mc_reply.specs.Spelling.{key_part, answer_of}
use Rattle.mc_route.specs.declared.outcomes.Outcome.{Outcome}
use Rattle.mc_route.specs.declared.outcomes.Outcome.TheVariants as outcomes

-- the line of a request of which a command was lost: source protocol.txt, "Error strings"; its text is this project's own
abbrev pub lost_line : List ℕ
lost_line = codes "SERVER_ERROR link lost\r\n"

-- whether any command was lost; one whose reply is pending counts as lost
abbrev pub has_lost : List Outcome → Bool
has_lost [] = false
has_lost (outcomes.Reply reply ∷ others) = has_lost others
has_lost (outcome ∷ others) = true

-- the replies that have arrived
abbrev pub replies_in : List Outcome → List (Reply (List ℕ))
replies_in [] = []
replies_in (outcomes.Reply reply ∷ others) = reply ∷ replies_in others
replies_in (outcome ∷ others) = replies_in others

-- what a key of a retrieval command adds, by the outcome of its command
abbrev pub outcome_part : List ℕ → Outcome → List ℕ
outcome_part key (outcomes.Reply reply) = key_part key reply
outcome_part key outcome = []

-- the whole answer to a request by the outcomes of its commands: if one was lost, the line of a lost link alone, also to
-- a request that hides its answer; else what one server would answer
-- source: this project's own
abbrev pub joined_answer : Request → List Outcome → List ℕ
joined_answer request outcomes = if has_lost outcomes then lost_line else answer_of request (replies_in outcomes)
