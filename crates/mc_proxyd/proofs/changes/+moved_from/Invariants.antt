use Rattle.std.proofs.Common.{length}
use Rattle.mc_proxyd.proofs.changes.+moved_from.Given as goal

abbrev pub decreases-moved_from : goal.decreases-moved_from
decreases-moved_from l = length l.servers.now
