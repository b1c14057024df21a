use Rattle.mc_pool_laws.proofs.LossLemmas.{order_kept}
use Rattle.mc_pool_laws.proofs.losses.clients_keep_their_order.Goals as goal

pub returns : goal.returns
returns c home losses ring opening texts outs histories log account = order_kept home losses ring opening account.0 texts outs histories log account.1
