use Rattle.std.proofs.Common.{◌≡◌, ◌++◌}
use Rattle.mc_script.specs.Escapes.{client_lines}
use Rattle.mc_script.specs.Plays.{outputs_of}
use Rattle.mc_script.proofs.outputs.push_output_lines.Given as goal

abbrev pub invariant-loop-client : goal.invariant-loop-client
invariant-loop-client g l = l.out.items ≡ l.fn.out.items ++ client_lines (outputs_of l.client l.server)
