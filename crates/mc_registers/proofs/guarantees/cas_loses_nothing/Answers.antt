use Rattle.mc_registers.proofs.NumberLemmas.{updates_lose_nothing}
use Rattle.mc_registers.proofs.guarantees.cas_loses_nothing.Goals as goal

pub returns : goal.returns
returns c = updates_lose_nothing
