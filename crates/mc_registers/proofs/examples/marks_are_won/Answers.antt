use Rattle.std.proofs.Common.{false, Ok, refl}
use Rattle.mc_registers.proofs.examples.marks_are_won.Goals as goal

pub returns-clause-made : goal.returns-clause-made
returns-clause-made c = (false, Ok 1, refl, refl, (false, Ok 2, refl, refl, (false, Ok 2, refl, refl, tt)))

pub returns-clause-ending : goal.returns-clause-ending
returns-clause-ending c = (false, Ok 1, refl, refl, (false, Ok 2, refl, refl, (false, Ok 2, refl, refl, tt)))

pub returns-clause-stale : goal.returns-clause-stale
returns-clause-stale c = (false, Ok 1, refl, refl, (false, Ok 2, refl, refl, (false, Ok 2, refl, refl, (false, Ok 3, refl, refl, (false, Ok 3, refl, refl, tt)))))

pub returns-clause-fresh : goal.returns-clause-fresh
returns-clause-fresh c = (false, Ok 1, refl, refl, (false, Ok 2, refl, refl, tt))

pub returns-clause-hit : goal.returns-clause-hit
returns-clause-hit c = (false, Ok 1, refl, refl, (false, Ok 2, refl, refl, (false, Ok 2, refl, refl, tt)))
