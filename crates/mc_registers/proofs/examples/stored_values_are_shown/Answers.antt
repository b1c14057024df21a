use Rattle.std.proofs.Common.{false, Ok, refl}
use Rattle.mc_registers.proofs.examples.stored_values_are_shown.Goals as goal

pub returns-clause-set : goal.returns-clause-set
returns-clause-set c = (false, Ok 1, refl, refl, (false, Ok 2, refl, refl, tt))

pub returns-clause-twice : goal.returns-clause-twice
returns-clause-twice c = (false, Ok 1, refl, refl, (false, Ok 2, refl, refl, (false, Ok 3, refl, refl, tt)))

pub returns-clause-joined : goal.returns-clause-joined
returns-clause-joined c = (false, Ok 1, refl, refl, (false, Ok 2, refl, refl, (false, Ok 3, refl, refl, tt)))
