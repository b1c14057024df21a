use Rattle.std.proofs.Common.{◌≡◌}
use Rattle.mc_pool_script.specs.PoolScripts.{first_servers}
use Rattle.mc_pool_script.proofs.addresses.first_addresses.Given as goal

abbrev pub invariant-loop-place : goal.invariant-loop-place
invariant-loop-place l = l.addresses.items ≡ first_servers l.place
