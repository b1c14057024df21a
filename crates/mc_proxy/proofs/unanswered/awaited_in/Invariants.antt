use Rattle.std.proofs.Common.{◌≡◌, ◌+◌, ◌≤◌, drop}
use Rattle.mc_proxy.specs.Emits.{awaited_in}
use Rattle.mc_proxy.proofs.unanswered.awaited_in.Given as goal

-- those so far and those to come are all; each outcome counts for one at most
abbrev pub invariant-loop-outcome : goal.invariant-loop-outcome
invariant-loop-outcome l = record {
  whole : l.awaited + awaited_in (drop l.outcome-index l.outcomes) ≡ awaited_in l.outcomes;
  bound : l.awaited ≤ l.outcome-index;
}
