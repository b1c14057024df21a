use Rattle.std.proofs.Common.{false, Ok, refl}
use Rattle.mc_registers.proofs.needs.another_value_is_read.Goals as goal

pub returns : goal.returns
returns c = (false, Ok 1, refl, refl, (false, Ok 2, refl, refl, (false, Ok 3, refl, refl, tt)))
