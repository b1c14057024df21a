use Rattle.std.proofs.Common.{◌≡◌, ◌++◌}
use Rattle.mc_ring.specs.Points.{first_points, pairs_at}
use Rattle.mc_ring.proofs.points.push_points.Given as goal

-- the points of the digests so far
abbrev pub invariant-loop-k : goal.invariant-loop-k
invariant-loop-k l = l.points.items ≡ l.initial.points.items ++ pairs_at l.fn.place (first_points l.server l.k)
