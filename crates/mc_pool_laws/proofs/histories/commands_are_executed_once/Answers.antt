use Rattle.mc_pool_laws.proofs.histories.commands_are_executed_once.Goals as goal

pub returns : goal.returns
returns c home losses ring opening texts outs histories log account = account.1.once
