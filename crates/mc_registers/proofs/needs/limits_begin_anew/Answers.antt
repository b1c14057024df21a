use Rattle.std.proofs.Common.{false, true, Ok, refl}
use Rattle.std.specs.Fmt.{digits}
use Rattle.mc_registers.proofs.needs.limits_begin_anew.Goals as goal

pub returns-clause-forgotten : goal.returns-clause-forgotten
unfolding digits
returns-clause-forgotten c = (false, Ok 1, refl, refl, (true, Ok 2, refl, refl, tt))

pub returns-clause-dead : goal.returns-clause-dead
unfolding digits
returns-clause-dead c = (false, Ok 1, refl, refl, (false, Ok 2, refl, refl, tt))

pub returns-clause-deleted : goal.returns-clause-deleted
unfolding digits
returns-clause-deleted c = (false, Ok 1, refl, refl, (false, Ok 2, refl, refl, (false, Ok 2, refl, refl, tt)))
