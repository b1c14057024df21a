use Rattle.std.proofs.Common.{◌≡◌}
use Rattle.mc_script.specs.Answers.{cache_of}
use Rattle.mc_script.specs.Plays.{opened}
use Rattle.mc_script.specs.ScriptSeen.{script_seen}
use Rattle.mc_script.proofs.outputs.opened_server.Given as goal

abbrev pub invariant-loop : goal.invariant-loop
invariant-loop g l = l.server ≡ opened (cache_of (script_seen l.script)) l.counter
