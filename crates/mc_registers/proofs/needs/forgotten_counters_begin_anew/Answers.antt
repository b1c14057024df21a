use Rattle.std.proofs.Common.{false, true, Ok, refl}
use Rattle.std.specs.Fmt.{digits}
use Rattle.mc_registers.proofs.needs.forgotten_counters_begin_anew.Goals as goal

pub returns : goal.returns
unfolding digits
returns c = (false, Ok 1, refl, refl, (false, Ok 2, refl, refl, (true, Ok 3, refl, refl, (false, Ok 4, refl, refl, tt))))
