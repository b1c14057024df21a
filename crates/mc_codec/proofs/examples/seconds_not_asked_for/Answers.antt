use Rattle.std.proofs.Common.{refl, codes}
use Rattle.mc_text.specs.Forms.{text_at, digits_at, number_at, block_at}
use Rattle.mc_codec.specs.Examples.{mg_of_a}
use Rattle.mc_codec.proofs.HeadLemmas.{strange_from}
use Rattle.mc_codec.proofs.examples.seconds_not_asked_for.Goals as goal

pub returns : goal.returns
unfolding text_at digits_at number_at block_at
returns c = strange_from mg_of_a 6 (codes "VA 1 t") refl refl
