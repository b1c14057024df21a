use Rattle.std.proofs.Common.{◌≡◌, replicate}
use Rattle.mc_world.specs.Worlds.{nobody}
use Rattle.mc_world.proofs.openings.opened_clients.Given as goal

-- the number of clients so far
abbrev pub invariant-loop : goal.invariant-loop
invariant-loop l = l.list.items ≡ replicate l.counter nobody
