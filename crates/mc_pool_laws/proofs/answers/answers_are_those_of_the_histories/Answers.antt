use Rattle.mc_pool_laws.proofs.OutcomeLemmas.{put_answers}
use Rattle.mc_pool_laws.proofs.answers.answers_are_those_of_the_histories.Goals as goal

pub returns : goal.returns
returns c home losses ring opening texts outs histories log account client = put_answers home losses ring opening account.0 texts outs histories log account.1 client
