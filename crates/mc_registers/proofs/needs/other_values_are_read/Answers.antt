use Rattle.std.proofs.Common.{false, true, Ok, Err, refl}
use Rattle.mc_request.specs.declared.faults.Fault.TheVariants.{OutOfMemory}
use Rattle.mc_registers.proofs.needs.other_values_are_read.Goals as goal

pub returns-clause-joined : goal.returns-clause-joined
returns-clause-joined c = (false, Ok 1, refl, refl, (false, Ok 2, refl, refl, (false, Ok 3, refl, refl, tt)))

pub returns-clause-refused : goal.returns-clause-refused
returns-clause-refused c = (false, Ok 1, refl, refl, (false, Err OutOfMemory, refl, refl, (false, Ok 2, refl, refl, tt)))

pub returns-clause-made : goal.returns-clause-made
returns-clause-made c = (false, Ok 1, refl, refl, (true, Ok 2, refl, refl, (false, Ok 3, refl, refl, tt)))

pub returns-clause-filled : goal.returns-clause-filled
returns-clause-filled c = (false, Ok 1, refl, refl, (true, Ok 2, refl, refl, tt))
