use Rattle.std.proofs.Common.{◌≡◌, ◌<◌, ◌+◌, ℕ, false, length, deque_len, deque_capacity, slice_index_or, vec_len, sym, arith, rules, ◌∙◌, ap}
use Rattle.mc_net.specs.ReadyQueues.{has_key}
use Rattle.mc_net.proofs.ReadyLemmas.{distinct_pushed, marked_set, marks_pushed}
use Rattle.mc_net.proofs.ready_queues.ReadyQueue.push.Goals as goal

-- the key has a mark, which is not set: so fewer keys are in the queue than it has room for
pub push_back_reserved-requires : goal.push_back_reserved-requires
push_back_reserved-requires c =
    let inside : c.args.key < length c.self.inside.marks.items = search (rules) in
    let absent : slice_index_or c.self.inside.marks.items c.args.key false ≡ false = search (rules) in
    let set = marked_set c.self.inside.marks.items c.args.key inside absent in
    omega (arith, set.1, c.self.invariant.count, c.self.invariant.room, c.self.inside.marks.ok.0)

pub invariant_of-self-2 : goal.invariant_of-self-2
invariant_of-self-2 c =
    let inside : c.args.key < length c.self.inside.marks.items = search (rules) in
    let absent : slice_index_or c.self.inside.marks.items c.args.key false ≡ false = search (rules) in
    let set = marked_set c.self.inside.marks.items c.args.key inside absent in
    let marks = marks_pushed c.self.inside.marks.items c.self.inside.keys.items c.args.key inside c.self.invariant.marks in
    let distinct = distinct_pushed c.args.key c.self.inside.keys.items c.self.invariant.distinct (sym (c.self.invariant.marks c.args.key) ∙ absent) in
    record {
      marks = rw c.push_back_reserved.ensures.items marks;
      distinct = rw c.push_back_reserved.ensures.items distinct;
      count = set.0 ∙ ap (λ (n : ℕ). n + 1) c.self.invariant.count ∙ sym c.push_back_reserved.ensures.len;
      room = rw c.push_back_reserved.ensures.capacity c.self.invariant.room;
    }
