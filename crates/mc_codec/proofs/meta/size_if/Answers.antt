use Rattle.std.proofs.Common.{refl}
use Rattle.mc_text.proofs.SeenLemmas.{read-number_if}
use Rattle.mc_codec.proofs.meta.size_if.Goals as goal

pub returns : goal.returns
returns c = rw (read-number_if, ← c.in_ok-own.ensures.read, c.left_if.ensures, c.size_of.ensures) refl
