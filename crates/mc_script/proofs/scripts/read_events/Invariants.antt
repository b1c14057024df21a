use Rattle.std.proofs.Common.{◌≡◌}
use Rattle.std.specs.List.{All}
use Rattle.mc_script.specs.Events.{IsEventOf}
use Rattle.mc_script.specs.Scripts.{events_of}
use Rattle.mc_script.proofs.ScriptLemmas.{with_front}
use Rattle.mc_script.proofs.scripts.read_events.Given as goal

abbrev pub invariant-loop-number : goal.invariant-loop-number
invariant-loop-number l = record {
  read : with_front l.events.items (events_of l.connections l.number-iterator) ≡ events_of l.connections l.fn.lines;
  all : All (IsEventOf l.connections) l.events.items;
}
