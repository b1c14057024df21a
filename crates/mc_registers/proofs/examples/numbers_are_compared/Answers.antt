use Rattle.std.proofs.Common.{false, Ok, refl}
use Rattle.mc_registers.proofs.examples.numbers_are_compared.Goals as goal

pub returns : goal.returns
returns c = (false, Ok 4, refl, refl, (false, Ok 5, refl, refl, (false, Ok 9, refl, refl, (false, Ok 10, refl, refl, (false, Ok 10, refl, refl, tt)))))
