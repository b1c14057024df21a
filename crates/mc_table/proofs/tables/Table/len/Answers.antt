use Rattle.std.proofs.Common.{◌∙◌}
use Rattle.mc_table.proofs.TableLemmas.{table_length}
use Rattle.mc_table.proofs.tables.Table.len.Goals as goal

pub returns-clause-len : goal.returns-clause-len
returns-clause-len g c = rw (← c.self.view_is) (c.len.ensures.len ∙ table_length _ _ c.self.invariant)
