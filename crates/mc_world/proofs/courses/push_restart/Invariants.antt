use Rattle.std.proofs.Common.{◌≡◌, ◌++◌, drop}
use Rattle.mc_world.specs.Logs.{Log}
use Rattle.mc_world.specs.Restarts.{losses_of}
use Rattle.mc_world.proofs.courses.push_restart.Given as goal

-- what is logged, and what is still to be logged, are all that is to be logged
abbrev pub invariant-loop-proxy : goal.invariant-loop-proxy
invariant-loop-proxy g l = record {
  all : l.log.items ++ losses_of l.place l.proxy (drop l.proxy l.pool.proxies) ≡ l.fn.log.items ++ losses_of l.place 0 l.pool.proxies;
  more : (more : Log) × (l.log.items ≡ l.fn.log.items ++ more);
}
