use Rattle.mc_script.specs.Answers.{cache_of}
use Rattle.mc_script.specs.ScriptSeen.{script_seen}
use Rattle.mc_script.proofs.HistoryLemmas.{Played}
use Rattle.mc_script.proofs.outputs.played_server.Given as goal

-- a history of the events so far exists
abbrev pub invariant-loop-event : goal.invariant-loop-event
invariant-loop-event g l = Played (cache_of (script_seen l.script)) l.script.connections l.script.events.items l.event-index l.server
