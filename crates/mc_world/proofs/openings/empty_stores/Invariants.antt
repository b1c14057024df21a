use Rattle.std.proofs.Common.{◌≡◌, [], replicate}
use Rattle.mc_world.proofs.openings.empty_stores.Given as goal

-- the number of stores so far
abbrev pub invariant-loop : goal.invariant-loop
invariant-loop l = l.stores.items ≡ replicate l.counter []
