-- What a request is answered if a command of it was lost, by the site's choice.
use Rattle.std.specs.Prelude.{ℕ, ◌&&◌, ◌||◌, Bool, true, false, List, [], ◌∷◌, ◌++◌, map, if◌then◌else◌}
use Rattle.mc_request.specs.Hides.{hides_of}
use Rattle.mc_request.specs.declared.hides.Hides.{Hides}
use Rattle.mc_request.specs.declared.hides.Hides.TheVariants.{Nothing}
use Rattle.mc_request.specs.declared.meta.MetaCommand.TheVariants as metas
use Rattle.mc_request.specs.declared.parts.Request.{Request}
use Rattle.mc_request.specs.declared.parts.Request.TheVariants.{Get, Meta}
use Rattle.mc_reply.specs.declared.replies.Reply.{Reply}
use Rattle.mc_reply.specs.declared.replies.Reply.TheVariants.{Miss}
use Rattle.mc_reply.specs.Spelling.{answer_of}
use Rattle.mc_route.specs.declared.losses.Losses.{Losses}
use Rattle.mc_route.specs.declared.losses.Losses.TheVariants.{Told, Missed}
use Rattle.mc_route.specs.declared.outcomes.Outcome.{Outcome}
use Rattle.mc_route.specs.declared.outcomes.Outcome.TheVariants as outcomes
use Rattle.mc_route.specs.Joins.{has_lost, lost_line, outcome_part, replies_in}

-- whether a request is a retrieval: source protocol.txt, "Retrieval command", and "Meta Get"
abbrev pub is_retrieval : Request → Bool
is_retrieval (Get keys exptime with_cas) = true
is_retrieval (Meta (metas.Get key get) form) = true
is_retrieval other = false

-- whether a request hides any of its replies, by `noreply` or `q`
abbrev pub hides_any : Hides → Bool
hides_any Nothing = false
hides_any other = true

-- whether a request counts its lost commands as misses
-- source: this project's own
abbrev pub is_missed : Losses → Request → Bool
is_missed Told request = false
is_missed Missed request = is_retrieval request

-- whether a request, if it is no retrieval, gets no answer if a command of it was lost
-- source: this project's own
abbrev pub is_silent : Losses → Request → Bool
is_silent Told request = false
is_silent Missed request = hides_any (hides_of request)

-- whether the answer to a request says nothing of its lost commands
-- source: this project's own
abbrev pub is_unreported : Losses → Request → Bool
is_unreported losses request = is_missed losses request || is_silent losses request

-- whether a command of a request was lost, and its answer does not say so
-- source: this project's own
abbrev pub hides_loss : Losses → Request → List Outcome → Bool
hides_loss losses request outcomes = is_unreported losses request && has_lost outcomes

-- the reply to a command; a miss if it was lost, or if its reply is pending
abbrev pub reply_or_miss : Outcome → Reply (List ℕ)
reply_or_miss (outcomes.Reply reply) = reply
reply_or_miss outcome = Miss

-- the answer to a request that lost a command
-- source: this project's own
abbrev pub lost_answer : Losses → Request → List Outcome → List ℕ
lost_answer losses request outcomes =
    if is_missed losses request then answer_of request (map reply_or_miss outcomes)
    else if is_silent losses request then []
    else lost_line

-- the whole answer to a request by the outcomes of its commands; if none was lost, it is what one server would answer
-- source: this project's own
abbrev pub joined_with : Losses → Request → List Outcome → List ℕ
joined_with losses request outcomes = if has_lost outcomes then lost_answer losses request outcomes else answer_of request (replies_in outcomes)

-- the items of a retrieval's keys, in their order, by the outcomes of their commands
abbrev pub blocks_by : List (List ℕ) → List Outcome → List ℕ
blocks_by [] outcomes = []
blocks_by (key ∷ keys) [] = []
blocks_by (key ∷ keys) (outcome ∷ outcomes) = outcome_part key outcome ++ blocks_by keys outcomes
