use Rattle.std.proofs.Common.{false, Ok, refl}
use Rattle.std.specs.Fmt.{digits}
use Rattle.mc_registers.proofs.needs.counters_are_made_anew.Goals as goal

pub returns-clause-anew : goal.returns-clause-anew
unfolding digits
returns-clause-anew c = (false, Ok 2, refl, refl, tt)

pub returns-clause-deleted : goal.returns-clause-deleted
unfolding digits
returns-clause-deleted c = (false, Ok 1, refl, refl, (false, Ok 2, refl, refl, (false, Ok 2, refl, refl, (false, Ok 2, refl, refl, tt))))
