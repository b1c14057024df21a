use Rattle.std.proofs.Common.{◌≡◌, ◌+◌, ◌-◌, ◌^◌, ◌≤◌, min}
use Rattle.std.specs.VecDeque.Iter.{deque_iter_rest}
use Rattle.mc_proxy.specs.Held.{held_by_all}
use Rattle.mc_proxy.proofs.sessions.Session.held.Given as goal

-- what is kept for the requests so far and for those to come is the whole
abbrev pub invariant-loop-open_one : goal.invariant-loop-open_one
invariant-loop-open_one l = record {
  whole : min (l.held + held_by_all (deque_iter_rest l.open_one-iterator)) (2 ^ 64 - 1) ≡ min (held_by_all l.self.unanswered) (2 ^ 64 - 1);
  bound : l.held ≤ 2 ^ 64 - 1;
}
