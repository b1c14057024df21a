use Rattle.std.proofs.Common.{◌≡◌}
use Rattle.mc_pool_script.specs.PoolScripts.{read_all}
use Rattle.mc_pool_script.proofs.scripts.read_rest.Given as goal

abbrev pub invariant-loop-number : goal.invariant-loop-number
invariant-loop-number l = read_all l.script l.number-iterator ≡ read_all l.fn.script l.fn.lines
