use Rattle.std.proofs.Common.{false, Ok, refl}
use Rattle.std.specs.Fmt.{digits}
use Rattle.mc_registers.proofs.examples.shown_counts_are_counted.Goals as goal

pub returns : goal.returns
unfolding digits
returns c = (false, Ok 1, refl, refl, (false, Ok 2, refl, refl, (false, Ok 3, refl, refl, (false, Ok 4, refl, refl, tt))))
