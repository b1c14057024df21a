use Rattle.mc_codec.proofs.SpellingHeadLemmas.{heads_can_have, heads_spell}
use Rattle.mc_codec.proofs.spelling_laws.heads_tell_of_replies.Goals as goal

pub returns-clause-can_have : goal.returns-clause-can_have
returns-clause-can_have c = heads_can_have

pub returns-clause-spelling : goal.returns-clause-spelling
returns-clause-spelling c = heads_spell
