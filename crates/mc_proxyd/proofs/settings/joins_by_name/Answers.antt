use Rattle.std.proofs.Common.{MatchBool}
use Rattle.mc_proxyd.proofs.settings.joins_by_name.Goals as goal

pub returns-in-Some : goal.returns-in-Some
returns-in-Some c = rw c.in-Some.is c.has_name.ensures
