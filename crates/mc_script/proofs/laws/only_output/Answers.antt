use Rattle.mc_script.proofs.AnswerLemmas.{no_refusal, only_answer}
use Rattle.mc_script.proofs.laws.only_output.Goals as goal

pub returns-clause-granted : goal.returns-clause-granted
returns-clause-granted c = no_refusal

pub returns-clause-only : goal.returns-clause-only
returns-clause-only c = only_answer
