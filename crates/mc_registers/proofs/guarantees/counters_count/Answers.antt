use Rattle.mc_registers.proofs.CounterLemmas.{counters_count}
use Rattle.mc_registers.proofs.guarantees.counters_count.Goals as goal

pub returns : goal.returns
returns c = counters_count
