use Rattle.mc_pool_laws.proofs.PutLemmas.{nothing_asked, nothing_put}
use Rattle.mc_pool_laws.proofs.answers.nothing_is_put_out_unasked.Goals as goal

pub returns-clause-without_put : goal.returns-clause-without_put
returns-clause-without_put c home losses ring opening texts outs histories log account client = nothing_put home losses ring opening account.0 texts outs histories log account.1 client

pub returns-clause-without_text : goal.returns-clause-without_text
returns-clause-without_text c home losses ring opening texts outs histories log account client = nothing_asked home losses ring opening account.0 texts outs histories log account.1 client
