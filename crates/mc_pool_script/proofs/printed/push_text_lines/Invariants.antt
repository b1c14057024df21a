use Rattle.std.proofs.Common.{◌≡◌, ◌++◌}
use Rattle.mc_pool_script.specs.Printed.{text_lines}
use Rattle.mc_pool_script.proofs.printed.push_text_lines.Given as goal

abbrev pub invariant-loop-client : goal.invariant-loop-client
invariant-loop-client g l = l.out.items ≡ l.fn.out.items ++ text_lines l.client l.world.course
