use Rattle.std.proofs.Common.{◌≡◌, ◌+◌, ◌^◌, ◌<◌, length}
use Rattle.std.specs.Fmt.{decimal}
use Rattle.mc_codec.proofs.spelled_words.digits_len.Given as goal

-- the digits counted and those of what is left are all
abbrev pub invariant-loop-left : goal.invariant-loop-left
invariant-loop-left l = record {
  all : l.len + length (decimal l.left) ≡ length (decimal l.fn.number);
  fits : l.left < 2 ^ 64;
}

abbrev pub decreases-loop-left : goal.decreases-loop-left
decreases-loop-left l = l.left
