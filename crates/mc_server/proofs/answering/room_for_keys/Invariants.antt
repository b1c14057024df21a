use Rattle.std.proofs.Common.{◌≡◌, ◌+◌, ◌-◌, ◌^◌, ◌≤◌, min}
use Rattle.mc_server.specs.Rooms.{keys_room}
use Rattle.mc_server.proofs.answering.room_for_keys.Given as goal

-- the room so far and that of the other keys are the whole
abbrev pub invariant-loop-key : goal.invariant-loop-key
invariant-loop-key g l = record {
  whole : min (l.room + keys_room l.beside l.key-iterator l.cache) (2 ^ 64 - 1) ≡ min (keys_room l.beside l.fn.keys l.cache) (2 ^ 64 - 1);
  bound : l.room ≤ 2 ^ 64 - 1;
}
