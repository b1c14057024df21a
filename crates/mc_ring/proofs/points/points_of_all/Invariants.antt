use Rattle.std.proofs.Common.{◌≡◌, take}
use Rattle.mc_ring.specs.Points.{pairs_of}
use Rattle.mc_ring.proofs.points.points_of_all.Given as goal

-- the points of the servers so far
abbrev pub invariant-loop-place : goal.invariant-loop-place
invariant-loop-place l = l.points.items ≡ pairs_of (take l.place l.servers)
