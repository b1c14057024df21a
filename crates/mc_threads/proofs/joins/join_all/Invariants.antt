use Rattle.std.proofs.Common.{◌≡◌, ℕ, ◌+◌, ◌<◌, ◌≤◌, get_or, vec_items, vec_len, vec_capacity}
use Rattle.std.specs.Vec.Iter.{into_iter_items, into_iter_len}
use Rattle.std.specs.PromisedHandle.{KeepsAt}
use Rattle.mc_threads.specs.Causes.{IsLeast}
use Rattle.mc_threads.proofs.joins.join_all.Given as goal

-- the workers so far were joined, in order; the least of their causes is known
abbrev pub invariant-loop-child : goal.invariant-loop-child
invariant-loop-child g l = record {
  count : vec_len l.results + into_iter_len l.child-iterator ≡ into_iter_len l.initial.child-iterator;
  left : (k : ℕ) (d : _) → k < into_iter_len l.child-iterator → get_or (into_iter_items l.child-iterator) k d ≡ get_or (into_iter_items l.initial.child-iterator) (vec_len l.results + k) d;
  kept : (k : ℕ) (x : _) → k < vec_len l.results → KeepsAt g.P.Promise (into_iter_items l.initial.child-iterator) k (get_or (vec_items l.results) k x);
  room : into_iter_len l.initial.child-iterator ≤ vec_capacity l.results;
  least : IsLeast l.fn.own (vec_items l.results) l.least;
}
