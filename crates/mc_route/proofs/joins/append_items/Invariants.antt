use Rattle.std.proofs.Common.{◌≡◌, ◌+◌, ◌≤◌, ◌++◌, drop, map, vec_len, vec_capacity}
use Rattle.mc_reply.specs.Spelling.{blocks_of}
use Rattle.mc_route.specs.Losses.{reply_or_miss}
use Rattle.mc_route.specs.Rooms.{outcomes_room}
use Rattle.mc_route.proofs.joins.append_items.Given as goal

-- the items so far, and those of the keys to come; there is room for these and for the end
abbrev pub invariant-loop-at : goal.invariant-loop-at
invariant-loop-at l = record {
  items : l.out.items ++ blocks_of (drop l.at l.keys) (map reply_or_miss (drop l.at l.outcomes)) ≡ l.initial.out.items ++ blocks_of l.keys (map reply_or_miss l.outcomes);
  room : vec_len l.out + (outcomes_room (drop l.at l.outcomes) + 64) ≤ vec_capacity l.out;
  grows : vec_capacity l.initial.out ≤ vec_capacity l.out;
  len : vec_len l.out + outcomes_room (drop l.at l.outcomes) ≤ vec_len l.initial.out + outcomes_room l.outcomes;
}
