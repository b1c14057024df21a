use Rattle.std.proofs.Common.{refl}
use Rattle.mc_text.proofs.SeenLemmas.{read-number_if}
use Rattle.mc_codec.proofs.meta.shown_by.Goals as goal

pub returns : goal.returns
returns c =
    rw (read-number_if, ← c.in_ok-cas.ensures.read, read-number_if, ← c.in_ok-flags.ensures.read, c.size_if.ensures, c.flags_of.ensures) refl
