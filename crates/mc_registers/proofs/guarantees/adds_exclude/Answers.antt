use Rattle.mc_registers.proofs.GuaranteeLemmas.{unwritten_excludes}
use Rattle.mc_registers.proofs.guarantees.adds_exclude.Goals as goal

pub returns : goal.returns
returns c = unwritten_excludes
