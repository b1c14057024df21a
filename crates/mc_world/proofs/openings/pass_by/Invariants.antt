use Rattle.std.proofs.Common.{◌≡◌}
use Rattle.mc_world.specs.Worlds.{opening_proxy}
use Rattle.mc_world.proofs.openings.pass_by.Given as goal

-- the clients so far have gone
abbrev pub invariant-loop : goal.invariant-loop
invariant-loop l = l.proxy ≡ opening_proxy l.fn.proxy.losses l.fn.proxy.ring l.counter 0
