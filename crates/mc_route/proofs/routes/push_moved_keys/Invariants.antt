use Rattle.std.proofs.Common.{◌≡◌, ◌+◌, ◌≤◌, ◌++◌, length}
use Rattle.std.specs.VecDeque.{deque_len, deque_capacity}
use Rattle.std.specs.Vec.Iter.{into_iter_items}
use Rattle.mc_route.specs.Routes.{route_of_gets}
use Rattle.mc_route.proofs.routes.push_moved_keys.Given as goal

-- the commands so far, and those on the keys to come, for which there is room
abbrev pub invariant-loop-key : goal.invariant-loop-key
invariant-loop-key l = record {
  items : l.routed.items ++ route_of_gets l.ring l.exptime l.with_cas (into_iter_items l.key-iterator) ≡ l.fn.routed.items ++ route_of_gets l.ring l.exptime l.with_cas l.fn.keys;
  room : deque_len l.routed + length (into_iter_items l.key-iterator) ≤ deque_capacity l.routed;
}
