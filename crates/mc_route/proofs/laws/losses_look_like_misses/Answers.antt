use Rattle.mc_route.proofs.LossLemmas.{joined-like_a_miss}
use Rattle.mc_route.proofs.laws.losses_look_like_misses.Goals as goal

pub returns : goal.returns
returns c = joined-like_a_miss
