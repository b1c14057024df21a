use Rattle.std.proofs.Common.{◌≡◌, ◌+◌, length, arith}
use Rattle.mc_script.proofs.LineLemmas.{lines_from-nil}
use Rattle.mc_script.proofs.lines.LineIterIterator.next.Goals as goal

pub returns-clause-steps : goal.returns-clause-steps
returns-clause-steps c =
    let left = c.loop-self.self-inside in
    let zero : length left.rest.now ≡ 0 = grind (arith, c.is_empty.ensures, c.loop-self-test.false) in
    let none = lines_from-nil (left.passed + 1) left.rest.now zero in
    (cc, none)
