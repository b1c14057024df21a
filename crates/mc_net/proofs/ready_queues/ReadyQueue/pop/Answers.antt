use Rattle.std.proofs.Common.{◌≡◌, ◌∷◌, ◌++◌, arith, rules, sym, ap, ◌∙◌}
use Rattle.mc_net.specs.ReadyFields.{AreMarks}
use Rattle.mc_net.specs.ReadyQueues.{are_distinct, has_key}
use Rattle.mc_net.proofs.ReadyLemmas.{distinct_popped, marked_cleared, marks_popped, mark_first}
use Rattle.mc_net.proofs.ready_queues.ReadyQueue.pop.Goals as goal

pub invariant_of-self-2 : goal.invariant_of-self-2
invariant_of-self-2 c =
    let keys : c.self.inside.keys.items ≡ c.in_ok-key.key ∷ c.pop_front.new.self.items = search (rules) in
    let were = rw keys at c.self.invariant.marks in
    let once = rw keys at c.self.invariant.distinct in
    let fewer = marked_cleared c.self.inside.marks.items c.in_ok-key.key (mark_first c.self.inside.marks.items c.pop_front.new.self.items c.in_ok-key.key were) in
    record {
      marks = rw c.clear.ensures.items (marks_popped c.self.inside.marks.items c.pop_front.new.self.items c.in_ok-key.key were once);
      distinct = distinct_popped c.in_ok-key.key c.pop_front.new.self.items once;
      count = search (arith, rules, c.clear.ensures.items, fewer, c.self.invariant.count);
      room = omega (arith, c.clear.ensures.len, c.pop_front.ensures.capacity, c.self.invariant.room);
    }
