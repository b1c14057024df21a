use Rattle.std.proofs.Common.{◌≡◌, ◌++◌}
use Rattle.mc_script.specs.Escapes.{client_lines}
use Rattle.mc_pool_script.specs.Plays.{outs_of}
use Rattle.mc_pool_script.proofs.outputs.push_output_lines.Given as goal

abbrev pub invariant-loop-client : goal.invariant-loop-client
invariant-loop-client g l = l.out.items ≡ l.fn.out.items ++ client_lines (outs_of l.client l.world.course)
