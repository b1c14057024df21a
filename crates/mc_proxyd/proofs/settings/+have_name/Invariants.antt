use Rattle.std.proofs.Common.{length}
use Rattle.mc_proxyd.proofs.settings.+have_name.Given as goal

abbrev pub decreases-have_name : goal.decreases-have_name
decreases-have_name l = length l.addresses.now
