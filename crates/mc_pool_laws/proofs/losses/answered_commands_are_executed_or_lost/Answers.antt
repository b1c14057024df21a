use Rattle.mc_pool_laws.proofs.LossLemmas.{executed_or_lost}
use Rattle.mc_pool_laws.proofs.losses.answered_commands_are_executed_or_lost.Goals as goal

pub returns : goal.returns
returns c home losses ring opening texts outs histories log account = executed_or_lost home losses ring opening account.0 texts outs histories log account.1
