use Rattle.mc_pool_laws.proofs.ChoiceLemmas.{done_missed, done_told}
use Rattle.mc_pool_laws.proofs.choices.done_is_executed.Goals as goal

pub returns-clause-told : goal.returns-clause-told
returns-clause-told c = done_told

pub returns-clause-missed : goal.returns-clause-missed
returns-clause-missed c = done_missed
