use Rattle.std.proofs.lemmas.Result.{IfOk-weaker}
use Rattle.mc_ring.proofs.RingLemmas.{shown_moved}
use Rattle.mc_ring.proofs.points.points_with.Goals as goal

pub returns : goal.returns
returns c =
    let moved = rw (c.in_ok-push_points.ensures, c.in_ok-added.ensures.items, ← c.as_slice.ensures.value) at c.sort_unstable.ensures.permutation in
    IfOk-weaker c.joined.result _ _ (λ points shows. shown_moved c.args.held.now _ c.as_slice.result.now points.items moved shows) c.joined.ensures
