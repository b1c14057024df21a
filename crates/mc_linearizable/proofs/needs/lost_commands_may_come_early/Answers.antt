use Rattle.mc_linearizable.proofs.LostSecond.{early_and_lost}
use Rattle.mc_linearizable.proofs.needs.lost_commands_may_come_early.Goals as goal

pub returns : goal.returns
returns c = early_and_lost
