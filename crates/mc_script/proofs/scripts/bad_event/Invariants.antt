use Rattle.std.proofs.Common.{◌≡◌}
use Rattle.std.specs.Result.{result_err}
use Rattle.mc_script.specs.Scripts.{events_of}
use Rattle.mc_script.proofs.scripts.bad_event.Given as goal

abbrev pub invariant-loop-number : goal.invariant-loop-number
invariant-loop-number l = result_err (events_of l.connections l.number-iterator) ≡ result_err (events_of l.connections l.fn.lines)
