use Rattle.mc_pool_laws.proofs.SentLemmas.{puts_taken}
use Rattle.mc_pool_laws.proofs.answers.answers_follow_requests.Goals as goal

pub returns-clause-few : goal.returns-clause-few
returns-clause-few c home losses ring opening texts outs histories log account = puts_taken home losses ring opening account.0 texts outs histories log account.1

pub returns-clause-each : goal.returns-clause-each
returns-clause-each c home losses ring opening texts outs histories log account = account.1.after
