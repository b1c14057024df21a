use Rattle.mc_registers.proofs.RestartLemmas.{loses_nothing_across_restarts}
use Rattle.mc_registers.proofs.laws.cas_loses_nothing_across_restarts.Goals as goal

pub returns : goal.returns
returns c = loses_nothing_across_restarts
