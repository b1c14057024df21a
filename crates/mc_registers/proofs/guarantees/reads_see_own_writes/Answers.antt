use Rattle.mc_registers.proofs.ReadLemmas.{own_writes_are_read}
use Rattle.mc_registers.proofs.guarantees.reads_see_own_writes.Goals as goal

pub returns : goal.returns
returns c = own_writes_are_read
