use Rattle.std.specs.Prelude.{◌≡◌, ◌+◌, get_or, vec_items, vec_len, [], ◌∷◌, ◌++◌}
use Rattle.std.specs.Vec.Iter.{into_iter_items}
use Rattle.std.specs.PromisedHandle.{KeepsAt}
use Rattle.std.proofs.Common.{rules, arith, below_more, sym, subst}
use Rattle.mc_threads.specs.Causes.{IsLeast}
use Rattle.mc_threads.proofs.joins.join_all.Goals as goal

pub loop-child-preserved : goal.loop-child-preserved
loop-child-preserved g c =
    let was = c.loop-child.invariant in let step = c.in-Some.ensures.steps in let done = vec_len c.loop-child.results in
    let places = c.push.ensures.by_index in let handle = c.in-Some.child in
    let handles = into_iter_items c.into_iter-child-iterator.result in let Kept = KeepsAt g.P.Promise handles in
    let next : handle ≡ get_or handles done handle = let h = was.left 0 handle in grind rules in
    let here : Kept done c.join-joined.result = record { handle = handle; handle_is = next; kept = c.join-joined.ensures } in
    let grown : vec_len c.push.new.self ≡ done + 1 = search rules in
    record {
      count = search rules;
      left = λ k d below. let h = was.left (k + 1) d in grind rules;
      kept = λ k x below. below_more (λ i. Kept i (get_or (vec_items c.push.new.self) i x)) done
          (λ i low. subst (Kept i) (sym (places.0 i x low)) (was.kept i x low)) (subst (Kept done) (sym (places.1 x (search rules))) here) k (omega arith);
      room = search rules;
      least = let pushed : vec_items c.push.new.self ≡ vec_items c.loop-child.results ++ c.join-joined.result ∷ [] = search rules in
          subst (λ xs. IsLeast c.args.own xs c.with_worker-least.result) (sym pushed) (c.with_worker-least.ensures c.args.own (vec_items c.loop-child.results) was.least);
    }
