use Rattle.std.proofs.Common.{false, true, Ok, refl}
use Rattle.mc_registers.proofs.needs.forgotten_locks_are_taken.Goals as goal

pub returns-clause-forgotten : goal.returns-clause-forgotten
returns-clause-forgotten c = (false, Ok 1, refl, refl, (true, Ok 2, refl, refl, tt))

pub returns-clause-deleted : goal.returns-clause-deleted
returns-clause-deleted c = (false, Ok 1, refl, refl, (false, Ok 2, refl, refl, (false, Ok 2, refl, refl, tt)))

pub returns-clause-dead : goal.returns-clause-dead
returns-clause-dead c = (false, Ok 1, refl, refl, (false, Ok 2, refl, refl, tt))
