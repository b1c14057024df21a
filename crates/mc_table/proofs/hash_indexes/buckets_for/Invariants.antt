use Rattle.std.proofs.Common.{◌-◌}
use Rattle.mc_table.proofs.BucketLemmas.{Doubles}
use Rattle.mc_table.proofs.hash_indexes.buckets_for.Given as goal

abbrev pub invariant-loop-buckets : goal.invariant-loop-buckets
invariant-loop-buckets l = Doubles l.most l.buckets

abbrev pub decreases-loop-buckets : goal.decreases-loop-buckets
decreases-loop-buckets l = l.most - l.buckets
