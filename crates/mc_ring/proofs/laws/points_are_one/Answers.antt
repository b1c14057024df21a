use Rattle.mc_ring.proofs.ShownLemmas.{shown_one}
use Rattle.mc_ring.proofs.laws.points_are_one.Goals as goal

pub returns : goal.returns
returns c = λ pairs points others a b. shown_one pairs points others a b
