use Rattle.mc_threads.proofs.LawLemmas.{once}
use Rattle.mc_threads.proofs.laws.no_command_is_made_twice.Goals as goal

pub returns : goal.returns
returns c ring opening order texts outs histories began ended account = once ring opening order texts outs histories began ended account
