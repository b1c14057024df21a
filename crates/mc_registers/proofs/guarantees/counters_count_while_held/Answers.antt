use Rattle.mc_registers.proofs.CounterLemmas.{held_counters_count}
use Rattle.mc_registers.proofs.guarantees.counters_count_while_held.Goals as goal

pub returns : goal.returns
returns c = held_counters_count
