use Rattle.mc_script.proofs.AnswerLemmas.{some_answer}
use Rattle.mc_script.proofs.laws.some_output.Goals as goal

pub returns : goal.returns
returns c = some_answer
