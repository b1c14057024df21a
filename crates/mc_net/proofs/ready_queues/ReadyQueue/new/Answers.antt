use Rattle.std.proofs.Common.{◌≡◌, ℕ, zero, suc, false, replicate, slice_index_or, refl, sym, ◌∙◌, arith}
use Rattle.mc_net.specs.ReadyQueues.{marked}
use Rattle.mc_net.proofs.ReadyLemmas.{none_marked, no_marks}
use Rattle.mc_net.proofs.ready_queues.ReadyQueue.new.Goals as goal

-- no mark is set, and there is room for each key
pub invariant_of-result : goal.invariant_of-result
invariant_of-result c =
    let none : c.in_ok-from_elem.field-0.items ≡ replicate c.args.most false = c.in_ok-from_elem.ensures.items_if_clones_equal (λ y is. is) in
    record {
      marks = λ key. rw none (rw c.in_ok-with_capacity.ensures.items (no_marks c.args.most key));
      distinct = rw c.in_ok-with_capacity.ensures.items refl;
      count = rw none (none_marked c.args.most) ∙ sym c.in_ok-with_capacity.ensures.len;
      room = omega (arith, c.in_ok-from_elem.ensures.len, c.in_ok-with_capacity.ensures.capacity);
    }
