use Rattle.std.proofs.Common.{sym, ◌∙◌}
use Rattle.mc_table.proofs.EntryLemmas.{entry_none, remove_none}
use Rattle.mc_table.proofs.TableLemmas.{popped_found, removed_found}
use Rattle.mc_table.proofs.tables.Table.pop_entry.Goals as goal

pub returns-in_default-clause-value : goal.returns-in_default-clause-value
returns-in_default-clause-value g c = rw (← c.self.view_is) (sym (entry_none _ c.self.inside.entries c.self.inside.order c.in_default.ensures.none))

pub returns-in_default-clause-entries : goal.returns-in_default-clause-entries
returns-in_default-clause-entries g c =
    rw (← c.self.view_is) (sym (remove_none _ _ (entry_none _ c.self.inside.entries c.self.inside.order c.in_default.ensures.none)))

pub returns-clause-value : goal.returns-clause-value
returns-clause-value g c = rw (← c.self.view_is) (sym c.remove_at.ensures.entry ∙ popped_found _ _ _ _ c.self.invariant c.in-Some.ensures.found)

pub returns-clause-entries : goal.returns-clause-entries
returns-clause-entries g c =
    rw (← c.self.view_is) (c.remove_at.ensures.others ∙ removed_found _ _ _ _ c.self.invariant c.in-Some.ensures.found)
