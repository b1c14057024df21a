use Rattle.std.proofs.Common.{◌≡◌, ◌+◌, ◌-◌, ◌^◌, ◌≤◌, min, drop}
use Rattle.mc_proxy.specs.Held.{keys_len}
use Rattle.mc_proxy.proofs.held.keys_len.Given as goal

-- the keys so far and those to come are all
abbrev pub invariant-loop-at : goal.invariant-loop-at
invariant-loop-at l = record {
  whole : min (l.bytes + keys_len (drop l.at l.keys)) (2 ^ 64 - 1) ≡ min (keys_len l.keys) (2 ^ 64 - 1);
  bound : l.bytes ≤ 2 ^ 64 - 1;
}
