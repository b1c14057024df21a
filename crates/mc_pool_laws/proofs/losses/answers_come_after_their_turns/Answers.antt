use Rattle.mc_pool_laws.proofs.LossLemmas.{answered_after}
use Rattle.mc_pool_laws.proofs.losses.answers_come_after_their_turns.Goals as goal

pub returns : goal.returns
returns c home losses ring opening texts outs histories log account = answered_after home losses ring opening account.0 texts outs histories log account.1
