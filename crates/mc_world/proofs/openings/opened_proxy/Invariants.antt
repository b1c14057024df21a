use Rattle.std.proofs.Common.{◌≡◌}
use Rattle.mc_world.specs.Worlds.{opening_proxy}
use Rattle.mc_world.proofs.openings.opened_proxy.Given as goal

-- the clients so far are admitted
abbrev pub invariant-loop : goal.invariant-loop
invariant-loop l = l.proxy ≡ opening_proxy l.fn.losses l.fn.ring l.fn.first l.counter
