use Rattle.std.proofs.Common.{◌≡◌, ◌&&◌, drop}
use Rattle.std.specs.List.{list_all}
use Rattle.mc_text.specs.ByteTests.{is_from}
use Rattle.mc_text.proofs.byte_tests.are_single_from.Given as goal

-- the bytes so far, and the others, are all of them
abbrev pub invariant-loop-byte : goal.invariant-loop-byte
invariant-loop-byte l = (l.good && list_all (is_from l.least) (drop l.byte-index l.text)) ≡ list_all (is_from l.least) l.text
