use Rattle.std.proofs.Common.{false, Ok, refl}
use Rattle.mc_registers.proofs.needs.numbers_fit_another_life.Goals as goal

pub returns-clause-before : goal.returns-clause-before
returns-clause-before c = (false, Ok 1, refl, refl, (false, Ok 2, refl, refl, tt))

pub returns-clause-after : goal.returns-clause-after
returns-clause-after c = (false, Ok 1, refl, refl, (false, Ok 2, refl, refl, tt))
