use Rattle.std.proofs.Common.{◌≡◌, ℕ, ◌≤◌, ◌<◌, ◌+◌, drop, vec_len, get_or}
use Rattle.std.specs.Vec.Iter.{into_iter_items, into_iter_len}
use Rattle.mc_threads.specs.Starts.{HasSettled}
use Rattle.mc_threads.specs.declared.links.Ends.{Ends}
use Rattle.mc_threads.proofs.joins.settle_all.Given as goal

-- the rings of the workers so far have met, and each clock was kept; the others' rings are as they were
abbrev pub invariant-loop-joined : goal.invariant-loop-joined
invariant-loop-joined g l = record {
  ends : vec_len l.ends ≡ vec_len l.fn.results;
  few : l.place + into_iter_len l.joined-iterator ≡ vec_len l.fn.results;
  left : into_iter_items l.joined-iterator ≡ drop l.place l.fn.results.items;
  others : (i : ℕ) (e : Ends) → l.place ≤ i → get_or l.ends.items i e ≡ get_or l.initial.ends.items i e;
  len : vec_len l.clocks ≡ l.place;
  settled : (server : ℕ) → server < l.place → HasSettled _ g.C.Clock.times l.fn.results.items l.clocks.items l.initial.ends.items server;
}
