use Rattle.std.proofs.Common.{refl, codes, arith}
use Rattle.mc_text.specs.Forms.{text_at, digits_at, number_at, block_at}
use Rattle.mc_codec.specs.Examples.{get_of_a}
use Rattle.mc_codec.proofs.HeadLemmas.{reply_short}
use Rattle.mc_codec.proofs.examples.block_is_waited_for.Goals as goal

pub returns : goal.returns
unfolding text_at digits_at number_at block_at
returns c = reply_short get_of_a (codes "VALUE a 0 3\r\nx") 3 17 refl (λ some. omega arith) (omega arith)
