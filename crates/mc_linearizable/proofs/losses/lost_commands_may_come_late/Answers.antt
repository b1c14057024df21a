use Rattle.mc_linearizable.proofs.LateStore.{late_and_lost}
use Rattle.mc_linearizable.proofs.losses.lost_commands_may_come_late.Goals as goal

pub returns : goal.returns
returns c = late_and_lost
