use Rattle.mc_pool_laws.proofs.histories.commands_are_executed_when_taken.Goals as goal

pub returns : goal.returns
returns c home losses ring opening texts outs histories log account place k e at = (account.1.placed place k e at).0
