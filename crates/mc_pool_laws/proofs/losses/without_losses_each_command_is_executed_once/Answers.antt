use Rattle.mc_pool_laws.proofs.LossLemmas.{executed_once}
use Rattle.mc_pool_laws.proofs.losses.without_losses_each_command_is_executed_once.Goals as goal

pub returns : goal.returns
returns c home losses ring opening texts outs histories log account = executed_once home losses ring opening account.0 texts outs histories log account.1
