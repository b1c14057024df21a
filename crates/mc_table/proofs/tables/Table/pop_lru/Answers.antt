use Rattle.std.proofs.Common.{Some, sym, ◌∙◌, arith}
use Rattle.mc_table.proofs.TableLemmas.{no_items, table_last, last_taken}
use Rattle.mc_table.proofs.tables.Table.pop_lru.Goals as goal

pub returns-then-place-eq0-clause-empty : goal.returns-then-place-eq0-clause-empty
returns-then-place-eq0-clause-empty g c =
    let none = no_items _ _ c.self.invariant (sym c.last-place.ensures ∙ c.if-place-eq0.true) in
    rw (← c.self.view_is) (none, none)

pub remove_at-requires-clause-within : goal.remove_at-requires-clause-within
remove_at-requires-clause-within g c =
    let last = table_last _ _ _ c.self.invariant c.last-place.ensures c.if-place-eq0.false in
    let positive = last.positive in
    let within = last.within in
    omega arith

pub returns-clause-last : goal.returns-clause-last
returns-clause-last g c =
    let last = table_last _ _ _ c.self.invariant c.last-place.ensures c.if-place-eq0.false in
    rw (← c.self.view_is) (last_taken _ _ _ _ (Some c.remove_at.result) last (sym c.remove_at.ensures.entry) c.remove_at.ensures.others)
