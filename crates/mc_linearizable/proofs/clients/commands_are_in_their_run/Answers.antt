use Rattle.mc_linearizable.proofs.LifeRuns.{life_run}
use Rattle.mc_linearizable.proofs.clients.commands_are_in_their_run.Goals as goal

pub returns : goal.returns
returns c home losses counter order texts outs histories log pool key place life = life_run home counter order histories log key (pool.keys key) place life
