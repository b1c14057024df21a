use Rattle.std.proofs.Common.{◌≡◌, ◌+◌, ◌≤◌, ◌++◌, ℕ, List, vec_len, vec_capacity}
use Rattle.mc_reply.specs.MetaSpelling.{flags_onto}
use Rattle.mc_reply.specs.MetaRooms.{flags_room}
use Rattle.mc_reply.proofs.flag_appends.append_flags.Given as goal

-- what was appended and what the other words return are the whole, and there is room for it
abbrev pub invariant-loop-flag : goal.invariant-loop-flag
invariant-loop-flag l = record {
  spelled : (rest : List ℕ) → l.out.items ++ flags_onto l.coded l.word l.shown l.flag-iterator rest ≡ l.fn.out.items ++ flags_onto l.coded l.word l.shown l.fn.flags rest;
  room : vec_len l.out + flags_room l.flag-iterator ≤ vec_capacity l.out;
  len : vec_len l.out + flags_room l.flag-iterator ≤ vec_len l.fn.out + flags_room l.fn.flags;
  capacity : vec_capacity l.fn.out ≤ vec_capacity l.out;
}
