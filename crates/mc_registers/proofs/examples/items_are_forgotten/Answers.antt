use Rattle.std.proofs.Common.{false, true, Ok, refl}
use Rattle.mc_registers.proofs.examples.items_are_forgotten.Goals as goal

pub returns-clause-missed : goal.returns-clause-missed
returns-clause-missed c = (false, Ok 1, refl, refl, (true, Ok 2, refl, refl, (false, Ok 2, refl, refl, tt)))

pub returns-clause-added : goal.returns-clause-added
returns-clause-added c = (false, Ok 1, refl, refl, (true, Ok 2, refl, refl, (false, Ok 3, refl, refl, tt)))

pub returns-clause-held : goal.returns-clause-held
returns-clause-held c = (false, Ok 1, refl, refl, (false, Ok 2, refl, refl, (false, Ok 2, refl, refl, (false, Ok 2, refl, refl, tt))))

pub returns-clause-dead : goal.returns-clause-dead
returns-clause-dead c = (false, Ok 1, refl, refl, (false, Ok 2, refl, refl, (false, Ok 2, refl, refl, tt)))
