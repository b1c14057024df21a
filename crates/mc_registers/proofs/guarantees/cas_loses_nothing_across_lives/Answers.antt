use Rattle.mc_registers.proofs.GuaranteeLemmas.{cas_loses_nothing_across}
use Rattle.mc_registers.proofs.guarantees.cas_loses_nothing_across_lives.Goals as goal

pub returns : goal.returns
returns c = cas_loses_nothing_across
