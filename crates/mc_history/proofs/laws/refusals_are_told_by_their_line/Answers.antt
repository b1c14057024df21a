use Rattle.mc_history.proofs.RefusalLemmas.{line_of_told, told_by_line}
use Rattle.mc_history.proofs.laws.refusals_are_told_by_their_line.Goals as goal

pub returns-clause-refused : goal.returns-clause-refused
returns-clause-refused c = told_by_line

pub returns-clause-line : goal.returns-clause-line
returns-clause-line c = line_of_told
