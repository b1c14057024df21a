use Rattle.std.proofs.Common.{◌≡◌, ◌+◌, ◌-◌, ◌^◌, ◌≤◌, min, drop}
use Rattle.mc_route.specs.Rooms.{outcomes_room}
use Rattle.mc_route.proofs.joins.outcomes_room.Given as goal

-- the room so far and that of the outcomes to come are the whole
abbrev pub invariant-loop-outcome : goal.invariant-loop-outcome
invariant-loop-outcome l = record {
  whole : min (l.room + outcomes_room (drop l.outcome-index l.outcomes)) (2 ^ 64 - 1) ≡ min (outcomes_room l.outcomes) (2 ^ 64 - 1);
  bound : l.room ≤ 2 ^ 64 - 1;
}
