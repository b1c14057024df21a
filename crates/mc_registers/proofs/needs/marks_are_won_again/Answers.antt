use Rattle.std.proofs.Common.{false, true, Ok, refl}
use Rattle.mc_registers.proofs.needs.marks_are_won_again.Goals as goal

pub returns-clause-forgotten : goal.returns-clause-forgotten
returns-clause-forgotten c = (false, Ok 1, refl, refl, (true, Ok 2, refl, refl, tt))

pub returns-clause-dead : goal.returns-clause-dead
returns-clause-dead c = (false, Ok 1, refl, refl, (false, Ok 2, refl, refl, tt))

pub returns-clause-stale : goal.returns-clause-stale
returns-clause-stale c = (false, Ok 1, refl, refl, (false, Ok 2, refl, refl, (false, Ok 2, refl, refl, (false, Ok 3, refl, refl, tt))))

pub returns-clause-stored : goal.returns-clause-stored
returns-clause-stored c = (false, Ok 1, refl, refl, (false, Ok 2, refl, refl, (false, Ok 2, refl, refl, (false, Ok 3, refl, refl, tt))))
