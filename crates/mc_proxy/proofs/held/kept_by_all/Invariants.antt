use Rattle.std.proofs.Common.{◌≡◌, ◌+◌, ◌-◌, ◌^◌, ◌≤◌, min, drop}
use Rattle.mc_proxy.specs.Held.{kept_by_all}
use Rattle.mc_proxy.proofs.held.kept_by_all.Given as goal

-- what is kept so far and by the outcomes to come is the whole
abbrev pub invariant-loop-outcome : goal.invariant-loop-outcome
invariant-loop-outcome l = record {
  whole : min (l.kept + kept_by_all (drop l.outcome-index l.outcomes)) (2 ^ 64 - 1) ≡ min (kept_by_all l.outcomes) (2 ^ 64 - 1);
  bound : l.kept ≤ 2 ^ 64 - 1;
}
