use Rattle.std.proofs.Common.{List, drop, ap, sym, ◌∙◌, arith}
use Rattle.std.specs.Prelude.{slice_get}
use Rattle.mc_table.proofs.TableLemmas.{first_empty, table_first, first_is, first_left}
use Rattle.mc_table.proofs.tables.Table.pop_mru.Goals as goal

pub returns-then-place-eq0-clause-value : goal.returns-then-place-eq0-clause-value
returns-then-place-eq0-clause-value g c =
    rw (← c.self.view_is) (sym (ap (λ (l : List (g.row.K.Denot × g.row.V.Denot)). slice_get l 0) (first_empty _ _ c.self.invariant (sym c.first-place.ensures ∙ c.if-place-eq0.true))))

pub returns-then-place-eq0-clause-entries : goal.returns-then-place-eq0-clause-entries
returns-then-place-eq0-clause-entries g c =
    let none = first_empty _ _ c.self.invariant (sym c.first-place.ensures ∙ c.if-place-eq0.true) in
    rw (← c.self.view_is) (none ∙ sym (ap (λ (l : List (g.row.K.Denot × g.row.V.Denot)). drop 1 l) none))

pub remove_at-requires-clause-within : goal.remove_at-requires-clause-within
remove_at-requires-clause-within g c =
    let first = table_first _ _ _ c.self.invariant c.first-place.ensures c.if-place-eq0.false in
    let positive = first.positive in
    let within = first.within in
    omega arith

pub returns-clause-value : goal.returns-clause-value
returns-clause-value g c =
    rw (← c.self.view_is) (sym c.remove_at.ensures.entry ∙ first_is _ _ _ (table_first _ _ _ c.self.invariant c.first-place.ensures c.if-place-eq0.false))

pub returns-clause-entries : goal.returns-clause-entries
returns-clause-entries g c =
    rw (← c.self.view_is) (first_left _ _ _ _ (table_first _ _ _ c.self.invariant c.first-place.ensures c.if-place-eq0.false) c.remove_at.ensures.others)
