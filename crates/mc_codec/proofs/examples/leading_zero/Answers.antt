use Rattle.std.proofs.Common.{refl, codes}
use Rattle.mc_text.specs.Forms.{text_at, digits_at, number_at, block_at}
use Rattle.mc_codec.specs.Examples.{incr_of_a}
use Rattle.mc_codec.proofs.HeadLemmas.{strange_from}
use Rattle.mc_codec.proofs.examples.leading_zero.Goals as goal

pub returns : goal.returns
unfolding text_at digits_at number_at block_at
returns c = strange_from incr_of_a 2 (codes "007") refl refl
