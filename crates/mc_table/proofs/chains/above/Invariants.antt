use Rattle.std.proofs.Common.{length}
use Rattle.mc_table.specs.Slots.{tags_of, nexts_of}
use Rattle.mc_table.proofs.WalkLemmas.{Descends}
use Rattle.mc_table.proofs.chains.above.Given as goal

abbrev pub invariant-loop-at : goal.invariant-loop-at
invariant-loop-at g l = Descends l.heads.items (tags_of l.slots.items) (nexts_of l.slots.items) l.bucket (length l.slots.items) l.place l.above l.at

abbrev pub decreases-loop-at : goal.decreases-loop-at
decreases-loop-at g l = l.at
