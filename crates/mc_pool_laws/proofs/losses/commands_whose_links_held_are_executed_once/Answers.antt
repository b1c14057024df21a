use Rattle.mc_pool_laws.proofs.LossLemmas.{executed_where_held, executed_where_up}
use Rattle.mc_pool_laws.proofs.losses.commands_whose_links_held_are_executed_once.Goals as goal

pub returns-clause-held : goal.returns-clause-held
returns-clause-held c home losses ring opening texts outs histories log account = executed_where_up home losses ring opening account.0 texts outs histories log account.1

pub returns-clause-never_down : goal.returns-clause-never_down
returns-clause-never_down c home losses ring opening texts outs histories log account = executed_where_held home losses ring opening account.0 texts outs histories log account.1
