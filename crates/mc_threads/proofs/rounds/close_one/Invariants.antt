use Rattle.std.proofs.Common.{◌≡◌}
use Rattle.rtrb.specs.Ring.{sent, received}
use Rattle.mc_threads.specs.Links.{SameEnds}
use Rattle.mc_threads.proofs.rounds.close_one.Given as goal

-- the rings stay, and no byte was moved
abbrev pub invariant-rounds : goal.invariant-rounds
invariant-rounds g l = record {
  rings : SameEnds l.initial.ends l.ends;
  sent : sent l.ends.to ≡ sent l.initial.ends.to;
  received : received l.ends.from ≡ received l.initial.ends.from;
}
