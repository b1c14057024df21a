use Rattle.std.proofs.Common.{◌≡◌, ◌+◌, ◌-◌, ◌^◌, ◌≤◌, min, length, true, vec_len, vec_capacity}
use Rattle.std.specs.List.{list_all}
use Rattle.mc_text.specs.Keys.{is_plain_key}
use Rattle.mc_server.specs.Rooms.{keys_room}
use Rattle.mc_server.proofs.GetLemmas.{IsServing}
use Rattle.mc_server.proofs.answering.serve_keys.Given as goal

-- the keys so far are served and counted, and there is room for the others and for the end
abbrev pub invariant-loop-key : goal.invariant-loop-key
invariant-loop-key g l = record {
  good : list_all is_plain_key l.key-iterator ≡ true;
  served : IsServing l.fn.keys l.key-iterator l.exptime l.with_cas l.moment l.fn.cache l.cache l.fn.output.items l.output.items;
  room : vec_len l.output + (64 + keys_room 384 l.key-iterator l.cache) ≤ vec_capacity l.output;
  len : vec_len l.output + keys_room 384 l.key-iterator l.cache ≤ vec_len l.fn.output + keys_room 384 l.fn.keys l.fn.cache;
  work : min (l.work + length l.key-iterator) (2 ^ 64 - 1) ≡ min (1 + length l.fn.keys) (2 ^ 64 - 1);
  bound : l.work ≤ 2 ^ 64 - 1;
}
