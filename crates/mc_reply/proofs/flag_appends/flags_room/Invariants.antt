use Rattle.std.proofs.Common.{◌≡◌, ◌+◌, ◌-◌, ◌^◌, ◌≤◌, min}
use Rattle.mc_reply.specs.MetaRooms.{flags_room}
use Rattle.mc_reply.proofs.flag_appends.flags_room.Given as goal

-- the room so far and that of the other words are the whole
abbrev pub invariant-loop-word : goal.invariant-loop-word
invariant-loop-word l = record {
  whole : min (l.room + flags_room l.word-iterator) (2 ^ 64 - 1) ≡ min (flags_room l.fn.flags) (2 ^ 64 - 1);
  bound : l.room ≤ 2 ^ 64 - 1;
}
