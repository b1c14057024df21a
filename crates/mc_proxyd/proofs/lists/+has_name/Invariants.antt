use Rattle.std.proofs.Common.{length}
use Rattle.mc_proxyd.proofs.lists.+has_name.Given as goal

abbrev pub decreases-has_name : goal.decreases-has_name
decreases-has_name l = length l.servers.now
