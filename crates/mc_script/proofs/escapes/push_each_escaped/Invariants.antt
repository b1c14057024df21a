use Rattle.std.proofs.Common.{◌≡◌, ◌-◌, ◌≤◌, ◌++◌, length, take}
use Rattle.mc_script.specs.Escapes.{escaped}
use Rattle.mc_script.proofs.escapes.push_each_escaped.Given as goal

-- the bytes so far are appended, escaped
abbrev pub invariant-loop-done : goal.invariant-loop-done
invariant-loop-done l = (l.done ≤ length l.bytes) × (l.out.items ≡ l.fn.out.items ++ escaped (take l.done l.bytes))

abbrev pub decreases-loop-done : goal.decreases-loop-done
decreases-loop-done l = length l.bytes - l.done
