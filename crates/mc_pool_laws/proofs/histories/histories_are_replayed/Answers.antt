use Rattle.mc_world.specs.Logs.{in_life}
use Rattle.mc_pool_laws.proofs.SentLemmas.{replayed}
use Rattle.mc_pool_laws.proofs.histories.histories_are_replayed.Goals as goal

pub returns : goal.returns
returns c home losses ring opening texts outs histories log account place life =
    replayed home losses ring opening account.0 texts outs histories log account.1 place opening (in_life place life log (histories place)) (account.1.legal place life)
