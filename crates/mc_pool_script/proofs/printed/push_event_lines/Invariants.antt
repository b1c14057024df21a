use Rattle.std.proofs.Common.{◌≡◌, ◌++◌, take}
use Rattle.mc_pool_script.specs.Printed.{event_lines}
use Rattle.mc_pool_script.proofs.printed.push_event_lines.Given as goal

abbrev pub invariant-loop-step : goal.invariant-loop-step
invariant-loop-step l = record {
  number : l.number ≡ l.step-index;
  lines : l.out.items ≡ l.fn.out.items ++ event_lines (take l.step-index l.steps);
}
