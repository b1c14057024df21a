use Rattle.std.proofs.Common.{false, Ok, refl}
use Rattle.mc_registers.proofs.needs.another_number_is_compared.Goals as goal

pub returns-clause-refused : goal.returns-clause-refused
returns-clause-refused c = (false, Ok 1, refl, refl, (false, Ok 2, refl, refl, (false, Ok 2, refl, refl, (false, Ok 3, refl, refl, tt))))

pub returns-clause-stored : goal.returns-clause-stored
returns-clause-stored c = (false, Ok 1, refl, refl, (false, Ok 2, refl, refl, (false, Ok 2, refl, refl, (false, Ok 3, refl, refl, tt))))
