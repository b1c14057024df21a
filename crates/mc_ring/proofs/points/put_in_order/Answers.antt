use Rattle.std.proofs.lemmas.List.Filters.{dedup_is}
use Rattle.mc_ring.proofs.ShownLemmas.{shown}
use Rattle.mc_ring.proofs.points.put_in_order.Goals as goal

pub returns : goal.returns
returns c = shown _ _ _ c.sort_unstable.ensures.permutation c.sort_unstable.ensures.sorted (dedup_is _ _ _ c.dedup.ensures.filtered)
