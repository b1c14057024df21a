use Rattle.std.proofs.Common.{false, Ok, Err, refl}
use Rattle.mc_request.specs.declared.faults.Fault.TheVariants.{OutOfMemory}
use Rattle.mc_registers.proofs.examples.refused_stores_change_nothing.Goals as goal

pub returns : goal.returns
returns c = (false, Ok 1, refl, refl, (false, Err OutOfMemory, refl, refl, (false, Ok 2, refl, refl, tt)))
