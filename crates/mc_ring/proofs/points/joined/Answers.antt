use Rattle.std.proofs.Common.{◌≡◌, ◌++◌}
use Rattle.std.proofs.lemmas.List.Filters.{dedup_is}
use Rattle.mc_ring.proofs.ShownLemmas.{shown}
use Rattle.mc_ring.proofs.points.joined.Goals as goal

pub returns : goal.returns
returns c =
    let joined : c.extend_from_slice-2.new.self.items ≡ c.args.held.now ++ c.args.added.now = rw (c.in_ok-extend_from_slice-2.ensures.items, c.in_ok-extend_from_slice.ensures.items, c.in_ok-points.ensures.items) in
    rw (← joined) (shown _ _ _ c.in_ok-sort.ensures.permutation c.in_ok-sort.ensures.sorted (dedup_is _ _ _ c.dedup.ensures.filtered))
