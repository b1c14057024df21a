use Rattle.mc_reply.proofs.SpellingLemmas.{answer_of-one}
use Rattle.mc_reply.proofs.laws.one_reply_is_spelled.Goals as goal

pub returns : goal.returns
returns c = answer_of-one
