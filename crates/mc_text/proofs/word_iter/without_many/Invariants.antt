use Rattle.std.proofs.Common.{◌≡◌, length}
use Rattle.mc_text.specs.Words.{without_spaces}
use Rattle.mc_text.proofs.word_iter.without_many.Given as goal

abbrev pub invariant-loop-rest : goal.invariant-loop-rest
invariant-loop-rest l = without_spaces l.rest ≡ without_spaces l.fn.text

abbrev pub decreases-loop-rest : goal.decreases-loop-rest
decreases-loop-rest l = length l.rest
