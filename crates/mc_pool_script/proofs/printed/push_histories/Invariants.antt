use Rattle.std.proofs.Common.{◌≡◌, ◌++◌}
use Rattle.mc_pool_script.specs.Printed.{histories_lines}
use Rattle.mc_pool_script.proofs.printed.push_histories.Given as goal

abbrev pub invariant-loop-place : goal.invariant-loop-place
invariant-loop-place g l = l.out.items ≡ l.fn.out.items ++ histories_lines l.place l.world.course
