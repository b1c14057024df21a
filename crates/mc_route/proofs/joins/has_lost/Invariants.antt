use Rattle.std.proofs.Common.{◌≡◌, drop}
use Rattle.mc_route.specs.Joins.{has_lost}
use Rattle.mc_route.proofs.joins.has_lost.Given as goal

-- no command so far is lost
abbrev pub invariant-loop-outcome : goal.invariant-loop-outcome
invariant-loop-outcome l = has_lost (drop l.outcome-index l.outcomes) ≡ has_lost l.outcomes
