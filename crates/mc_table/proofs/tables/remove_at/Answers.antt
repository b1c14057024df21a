use Rattle.std.proofs.Common.{◌≡◌, ℕ, suc, ◌+◌, ◌∙◌, ap, arith}
use Rattle.mc_table.specs.Places.{left_out}
use Rattle.mc_table.specs.Tables.{in_order}
use Rattle.mc_table.proofs.TableLemmas.{table_removed, removed_order}
use Rattle.mc_table.proofs.tables.remove_at.Goals as goal

pub returns-clause-table : goal.returns-clause-table
returns-clause-table g c =
    let place : c.args.index + 1 ≡ suc c.args.index = omega arith in
    rw c.remove.ensures (table_removed _ _ _ c.args.index (c.args.index + 1) _ c.requires.table c.requires.within place c.swap_remove-entry.ensures.entries)

pub returns-clause-others : goal.returns-clause-others
returns-clause-others g c =
    let place : c.args.index + 1 ≡ suc c.args.index = omega arith in
    rw c.remove.ensures (removed_order _ _ _ c.args.index (c.args.index + 1) _ c.requires.table c.requires.within place c.swap_remove-entry.ensures.entries
    ∙ ap (λ (n : ℕ). in_order c.args.entries.now (left_out n c.args.order.now)) place)
