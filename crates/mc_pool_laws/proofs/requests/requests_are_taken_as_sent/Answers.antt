use Rattle.mc_pool_laws.proofs.SentLemmas.{request_taken, taken_few}
use Rattle.mc_pool_laws.proofs.requests.requests_are_taken_as_sent.Goals as goal

pub returns-clause-few : goal.returns-clause-few
returns-clause-few c home losses ring opening texts outs histories log account client = taken_few home losses ring opening account.0 texts outs histories log account.1 client

pub returns-clause-each : goal.returns-clause-each
returns-clause-each c home losses ring opening texts outs histories log account client request = request_taken home losses ring opening account.0 texts outs histories log account.1 client request
