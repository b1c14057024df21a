use Rattle.std.proofs.Common.{◌≡◌, ◌≤◌, ◌-◌, true, length, take, drop}
use Rattle.std.specs.List.{list_all}
use Rattle.mc_text.specs.ByteTests.{is_from}
use Rattle.mc_text.proofs.byte_tests.are_from.Given as goal

-- what is left is the end of the text, and the bytes before it passed
abbrev pub invariant-loop-rest : goal.invariant-loop-rest
invariant-loop-rest l =
    (length l.rest ≤ length l.text) × (l.rest ≡ drop (length l.text - length l.rest) l.text)
    × (list_all (is_from l.least) (take (length l.text - length l.rest) l.text) ≡ true)

abbrev pub decreases-loop-rest : goal.decreases-loop-rest
decreases-loop-rest l = length l.rest
