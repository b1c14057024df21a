use Rattle.std.proofs.Common.{nat_lt, rules}
use Rattle.std.proofs.lemmas.List.Sorted.{IsPartitionPoint-from_clause}
use Rattle.mc_ring.specs.declared.points.Point.{Point}
use Rattle.mc_ring.specs.Points.{pair_at}
use Rattle.mc_ring.proofs.OwnerLemmas.{holder_is}
use Rattle.mc_ring.proofs.ShownLemmas.{partitioned, holds_at, holds_first}
use Rattle.mc_ring.proofs.points.holder_of.Goals as goal

pub returns-then-place-points-clause-holds : goal.returns-then-place-points-clause-holds
returns-then-place-points-clause-holds c =
    let parted = IsPartitionPoint-from_clause (λ (p : Point). nat_lt p.point c.args.hash) c.args.points.now c.partition_point-place.result c.partition_point-place.ensures.partitioned
    (partitioned c.args.points.now c.args.hash c.requires.rising) (λ a r f called. search rules) in
    holder_is c.args.hash c.args.points.now _ (holds_at c.args.points.now c.args.hash c.partition_point-place.result (pair_at 0 0) c.requires.rising c.if-place-points.true parted)

pub returns-else-place-points-clause-holds : goal.returns-else-place-points-clause-holds
returns-else-place-points-clause-holds c =
    let parted = IsPartitionPoint-from_clause (λ (p : Point). nat_lt p.point c.args.hash) c.args.points.now c.partition_point-place.result c.partition_point-place.ensures.partitioned
    (partitioned c.args.points.now c.args.hash c.requires.rising) (λ a r f called. search rules) in
    holder_is c.args.hash c.args.points.now _ (holds_first c.args.points.now c.args.hash c.partition_point-place.result (pair_at 0 0) c.requires.rising c.requires.pointed c.if-place-points.false parted)
