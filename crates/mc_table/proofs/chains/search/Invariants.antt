use Rattle.mc_table.specs.Slots.{entries_of, tags_of}
use Rattle.mc_table.proofs.WalkLemmas.{Seeks}
use Rattle.mc_table.proofs.chains.search.Given as goal

abbrev pub invariant-loop-place : goal.invariant-loop-place
invariant-loop-place g l = Seeks (g.Q.Equivalent.equivalent l.query) l.heads.items (tags_of l.slots.items) (entries_of l.slots.items) l.tag l.place

abbrev pub decreases-loop-place : goal.decreases-loop-place
decreases-loop-place g l = l.place
