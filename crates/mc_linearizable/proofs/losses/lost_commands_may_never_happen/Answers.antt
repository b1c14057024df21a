use Rattle.mc_linearizable.proofs.NeverStore.{never_and_lost}
use Rattle.mc_linearizable.proofs.losses.lost_commands_may_never_happen.Goals as goal

pub returns : goal.returns
returns c = never_and_lost
