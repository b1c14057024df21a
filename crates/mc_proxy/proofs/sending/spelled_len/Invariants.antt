use Rattle.std.proofs.Common.{◌≡◌, ◌+◌, drop}
use Rattle.mc_proxy.specs.Sending.{spelled}
use Rattle.mc_proxy.proofs.sending.spelled_len.Given as goal

-- the bytes so far and those of the commands to come are all
abbrev pub invariant-loop-command : goal.invariant-loop-command
invariant-loop-command l = l.bytes + spelled (drop l.command-index l.commands) ≡ spelled l.commands
