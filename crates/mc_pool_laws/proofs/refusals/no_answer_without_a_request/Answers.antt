use Rattle.mc_pool_laws.proofs.PutLemmas.{none_put}
use Rattle.mc_pool_laws.proofs.refusals.no_answer_without_a_request.Goals as goal

pub returns : goal.returns
returns c home losses ring opening texts outs histories log client silent some account = some (none_put home losses ring opening account.0 texts outs histories log account.1 client silent)
