use Rattle.std.proofs.Common.{◌≡◌, ◌+◌, ◌<◌, ◌^◌, length}
use Rattle.mc_script.specs.Lines.{lines_from}
use Rattle.mc_script.proofs.lines.LineIterIterator.next.Given as goal

abbrev pub invariant-loop-self : goal.invariant-loop-self
invariant-loop-self l =
    (l.self-inside.passed + length l.self-inside.rest.now < 2 ^ 64)
    × (lines_from (l.self-inside.passed + 1) l.self-inside.rest.now ≡ lines_from (l.initial.self-inside.passed + 1) l.initial.self-inside.rest.now)

abbrev pub decreases-loop-self : goal.decreases-loop-self
decreases-loop-self l = length l.self-inside.rest.now
