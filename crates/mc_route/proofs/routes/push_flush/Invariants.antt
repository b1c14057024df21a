use Rattle.std.proofs.Common.{◌≡◌, ◌+◌, ◌≤◌, ◌++◌, length, drop}
use Rattle.std.specs.VecDeque.{deque_len, deque_capacity}
use Rattle.mc_request.specs.declared.parts.Atom.TheVariants.{Update}
use Rattle.mc_request.specs.declared.parts.Update.TheVariants.{FlushAll}
use Rattle.mc_route.specs.Routes.{to_each}
use Rattle.mc_route.proofs.routes.push_flush.Given as goal

-- the commands so far, and those for the servers to come, for which there is room
abbrev pub invariant-loop-server : goal.invariant-loop-server
invariant-loop-server l = record {
  items : l.routed.items ++ to_each l.server (drop l.server l.ring.servers) (Update (FlushAll l.delay)) ≡ l.initial.routed.items ++ to_each 0 l.ring.servers (Update (FlushAll l.delay));
  room : deque_len l.routed + length (to_each l.server (drop l.server l.ring.servers) (Update (FlushAll l.delay))) ≤ deque_capacity l.routed;
}
