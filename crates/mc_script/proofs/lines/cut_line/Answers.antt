use Rattle.mc_script.proofs.LineLemmas.{lines_from-found, lines_from-none}
use Rattle.mc_script.proofs.lines.cut_line.Goals as goal

pub returns-in-Some-clause-lines : goal.returns-in-Some-clause-lines
returns-in-Some-clause-lines c =
    λ n. rw (c.split_at.ensures.front, c.split_at-in-Some.ensures.back) (lines_from-found c.args.text.now c.in-Some.end n c.in-Some.ensures)

pub returns-in-None-clause-lines : goal.returns-in-None-clause-lines
returns-in-None-clause-lines c = λ n. lines_from-none c.args.text.now n c.in-None.ensures
