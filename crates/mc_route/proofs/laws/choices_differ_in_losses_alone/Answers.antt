use Rattle.std.proofs.Common.{refl}
use Rattle.mc_route.proofs.LossLemmas.{joined-unlost}
use Rattle.mc_route.proofs.laws.choices_differ_in_losses_alone.Goals as goal

pub returns-clause-told : goal.returns-clause-told
returns-clause-told c = λ request outcomes. refl

pub returns-clause-unlost : goal.returns-clause-unlost
returns-clause-unlost c = joined-unlost
