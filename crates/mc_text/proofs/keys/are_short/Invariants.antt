use Rattle.std.proofs.Common.{◌≡◌}
use Rattle.std.specs.List.{list_all}
use Rattle.mc_text.specs.Keys.{is_short}
use Rattle.mc_text.proofs.keys.are_short.Given as goal

abbrev pub invariant-loop-word : goal.invariant-loop-word
invariant-loop-word l = list_all is_short l.fn.words ≡ list_all is_short l.word-iterator
