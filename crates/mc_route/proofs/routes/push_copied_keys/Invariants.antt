use Rattle.std.proofs.Common.{◌≡◌, ◌+◌, ◌≤◌, ◌++◌, length, drop}
use Rattle.std.specs.VecDeque.{deque_len, deque_capacity}
use Rattle.mc_route.specs.Routes.{route_of_gets}
use Rattle.mc_route.proofs.routes.push_copied_keys.Given as goal

-- the commands so far, and those on the keys to come, for which there is room
abbrev pub invariant-loop-at : goal.invariant-loop-at
invariant-loop-at l = record {
  items : l.routed.items ++ route_of_gets l.ring l.exptime l.with_cas (drop l.at l.keys) ≡ l.initial.routed.items ++ route_of_gets l.ring l.exptime l.with_cas l.keys;
  room : deque_len l.routed + length (drop l.at l.keys) ≤ deque_capacity l.routed;
}
