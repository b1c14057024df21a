use Rattle.std.proofs.Common.{◌≡◌, ◌+◌, length, take, arith}
use Rattle.std.proofs.lemmas.List.{take_more, length-take-le}
use Rattle.mc_ring.proofs.PairLemmas.{pairs_from-more}
use Rattle.mc_ring.proofs.points.points_of_all.Goals as goal

pub loop-place-preserved : goal.loop-place-preserved
loop-place-preserved c =
    let at : 0 + length (take c.loop-place.place c.args.servers.now) ≡ c.loop-place.place = omega (arith, length-take-le c.loop-place.place c.args.servers.now (omega arith)) in
    rw (take_more c.args.servers.now c.loop-place.place c.index-servers-place.result c.loop-place-test.true, pairs_from-more, at, ← c.index-servers-place.is, ← c.loop-place.invariant)
    c.in_ok-push_points.ensures
