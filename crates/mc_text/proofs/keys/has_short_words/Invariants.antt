use Rattle.std.proofs.Common.{◌≡◌, length}
use Rattle.std.specs.List.{list_all}
use Rattle.mc_text.specs.Keys.{is_short}
use Rattle.mc_text.specs.Words.{words}
use Rattle.mc_text.proofs.keys.has_short_words.Given as goal

-- if a word of the text is too long, one that is left is
abbrev pub invariant-loop-rest : goal.invariant-loop-rest
invariant-loop-rest l = list_all is_short (words l.text) ≡ list_all is_short (words l.rest)

abbrev pub decreases-loop-rest : goal.decreases-loop-rest
decreases-loop-rest l = length l.rest
