use Rattle.mc_pool_laws.proofs.LossLemmas.{never_lost, replied_without_loss}
use Rattle.mc_pool_laws.proofs.ProxyLemmas.{follows}
use Rattle.mc_pool_laws.proofs.losses.without_losses_histories_follow_the_proxy.Goals as goal

pub returns-clause-never_lost : goal.returns-clause-never_lost
returns-clause-never_lost c home losses ring opening order texts outs histories log h = never_lost home losses ring opening order texts outs histories log h

pub returns-clause-replied : goal.returns-clause-replied
returns-clause-replied c home losses ring opening order texts outs histories log h = replied_without_loss home losses ring opening order texts outs histories log h

pub returns-clause-follows : goal.returns-clause-follows
returns-clause-follows c home losses ring opening texts outs histories log account = follows home losses ring opening account.0 texts outs histories log account.1
