use Rattle.std.proofs.Common.{◌≡◌, length}
use Rattle.mc_ring.specs.Rings.{has_doubled}
use Rattle.mc_ring.proofs.rings.has_doubled.Given as goal

-- no server so far is doubled
abbrev pub invariant-loop-left : goal.invariant-loop-left
invariant-loop-left l = has_doubled l.left ≡ has_doubled l.fn.servers

abbrev pub decreases-loop-left : goal.decreases-loop-left
decreases-loop-left l = length l.left
