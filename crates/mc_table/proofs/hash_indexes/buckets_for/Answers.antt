use Rattle.std.proofs.Common.{refl}
use Rattle.mc_table.proofs.BucketLemmas.{undoubled, doubled}
use Rattle.mc_table.proofs.hash_indexes.buckets_for.Goals as goal

pub loop-buckets-init : goal.loop-buckets-init
loop-buckets-init c = undoubled _

pub loop-buckets-preserved : goal.loop-buckets-preserved
loop-buckets-preserved c = doubled _ c.loop-buckets.buckets _ c.loop-buckets.invariant c.loop-buckets-test.true refl
