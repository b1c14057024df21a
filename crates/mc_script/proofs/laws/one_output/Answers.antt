use Rattle.mc_script.proofs.AnswerLemmas.{one_answer}
use Rattle.mc_script.proofs.laws.one_output.Goals as goal

pub returns : goal.returns
returns c = one_answer
