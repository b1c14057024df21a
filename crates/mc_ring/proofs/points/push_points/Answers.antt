use Rattle.std.proofs.Common.{append_assoc, append-nil, ◌++◌, ap, ◌∙◌}
use Rattle.mc_ring.specs.Points.{points_of_digest, pairs_at}
use Rattle.mc_ring.proofs.PairLemmas.{first_points-none, first_points-more}
use Rattle.mc_ring.proofs.points.push_points.Goals as goal

pub loop-k-init : goal.loop-k-init
loop-k-init c = rw (first_points-none, append-nil)

pub loop-k-preserved : goal.loop-k-preserved
loop-k-preserved c =
    rw (first_points-more c.args.server.now c.loop-k.k c.args.place, ← append_assoc, ← c.loop-k.invariant)
    (c.in_ok-extend_from_slice.ensures.items
    ∙ ap (λ ps. c.loop-k.points.items ++ ps) (c.points_of_digest.ensures ∙ ap (λ d. pairs_at c.args.place (points_of_digest d)) c.digest_of.ensures))
