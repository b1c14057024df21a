use Rattle.std.proofs.Common.{◌≡◌, ◌++◌, replicate}
use Rattle.mc_world.proofs.openings.push_home.Given as goal

-- the number of clients so far
abbrev pub invariant-loop : goal.invariant-loop
invariant-loop l = l.homes.items ≡ l.fn.homes.items ++ replicate l.counter l.proxy
