use Rattle.std.proofs.Common.{rules, arith, ◌≡◌, ◌+◌, ℕ, List, false, true, length, remove, slice_index_or, sym, ap, ◌∙◌}
use Rattle.std.specs.VecDeque.{deque_len}
use Rattle.mc_net.specs.ReadyQueues.{Ready, has_key, without}
use Rattle.mc_net.proofs.ReadyLemmas.{distinct_without, marked_cleared, marks_without, without_absent}
use Rattle.mc_net.proofs.ready_queues.ReadyQueue.remove.Goals as goal

-- it is not in the queue
pub returns-then-not-has : goal.returns-then-not-has
returns-then-not-has c =
    let absent : has_key c.args.key c.args.self.now.keys ≡ false = search (rules) in
    ap (λ (keys : List ℕ). let queue : Ready = record { most = c.args.self.now.most; keys = keys } in queue) (sym (without_absent c.args.key c.args.self.now.keys absent))

pub invariant_of-self : goal.invariant_of-self
invariant_of-self c =
    let kept : c.remove.new.self.items ≡ remove c.self.inside.keys.items c.in-Some.place = search (rules) in
    let fewer : deque_len c.remove.new.self + 1 ≡ deque_len c.self.inside.keys = search (rules) in
    let left : c.remove.new.self.items ≡ without c.args.key c.self.inside.keys.items = kept ∙ c.in-Some.ensures.found in
    let there = c.in-Some.ensures.there in
    let mark : slice_index_or c.self.inside.marks.items c.args.key false ≡ true = c.self.invariant.marks c.args.key ∙ there in
    let one = marked_cleared c.self.inside.marks.items c.args.key mark in
    record {
      marks = rw (c.clear.ensures.items, left) (marks_without c.self.inside.marks.items c.self.inside.keys.items c.args.key c.self.invariant.marks c.self.invariant.distinct there);
      distinct = rw left (distinct_without c.args.key c.self.inside.keys.items c.self.invariant.distinct);
      count = rw c.clear.ensures.items (omega (arith, one, fewer, c.self.invariant.count));
      room = omega (arith, c.clear.ensures.len, c.remove.ensures.capacity, c.self.invariant.room);
    }
