use Rattle.mc_registers.proofs.GuaranteeLemmas.{old_numbers_do_not_fit}
use Rattle.mc_registers.proofs.guarantees.old_numbers_do_not_fit.Goals as goal

pub returns : goal.returns
returns c = old_numbers_do_not_fit
