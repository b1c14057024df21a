use Rattle.std.proofs.Common.{◌≡◌, ◌++◌, map, drop}
use Rattle.mc_proxy.specs.SessionState.{states}
use Rattle.mc_proxy.specs.Sending.{at_once}
use Rattle.mc_proxy.proofs.sending.at_once.Given as goal

-- the outcomes so far, and those of the commands to come
abbrev pub invariant-loop-command : goal.invariant-loop-command
invariant-loop-command l = l.outcomes.items ++ map (at_once (states l.links)) (drop l.command-index l.commands) ≡ map (at_once (states l.links)) l.commands
