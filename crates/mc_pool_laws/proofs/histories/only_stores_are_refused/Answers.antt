use Rattle.mc_world.specs.Logs.{in_life}
use Rattle.mc_pool_laws.proofs.SentLemmas.{replayed}
use Rattle.mc_pool_laws.proofs.WantedLemmas.{are_wanted}
use Rattle.mc_pool_laws.proofs.histories.only_stores_are_refused.Goals as goal

pub returns : goal.returns
returns c home losses ring opening texts outs histories log account place life =
    are_wanted home ring texts log place opening (in_life place life log (histories place))
    (replayed home losses ring opening account.0 texts outs histories log account.1 place opening (in_life place life log (histories place)) (account.1.legal place life))
