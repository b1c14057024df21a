use Rattle.mc_table.proofs.RisesLemmas.{rises_lent}
use Rattle.mc_table.proofs.numbered.Numbered.at_mut.Goals as goal

-- the entry keeps its number
pub invariant_of-self-lent : goal.invariant_of-self-lent
invariant_of-self-lent g c w =
    rises_lent 0 c.self.inside.entries.items c.self.inside.next c.args.place c.index_mut-entry.result.now w c.index_mut-entry.ensures.value c.self.invariant
