use Rattle.std.proofs.Common.{◌≡◌, ℕ, suc, ◌<◌, ◌^◌, List, None, length, ap, ◌∙◌, subst, arith}
use Rattle.std.specs.Map.{lookup}
use Rattle.mc_table.specs.Tables.{in_order}
use Rattle.mc_table.proofs.TableLemmas.{table_nowhere, table_more, more_order, undone_by}
use Rattle.mc_table.proofs.tables.Table.put_front.Goals as goal

pub push-requires-clause-absent : goal.push-requires-clause-absent
push-requires-clause-absent g c =
    let es = c.self.inside.entries in
    let ps = c.self.inside.order in
    let absent : lookup (g.K.PartialEq.eq c.args.k) (in_order es ps) ≡ None = rw c.self.view_is c.requires in
    table_nowhere (g.K.PartialEq.eq c.args.k) es ps c.self.invariant absent

pub push-requires-clause-small : goal.push-requires-clause-small
push-requires-clause-small g c =
    let ps = c.self.inside.order in
    let small : suc (length ps) < 2 ^ 32 = subst (λ (l : List ℕ). length l < 2 ^ 32) c.in-Ok.ensures.ok c.in-Ok.ensures.small in
    omega (arith, c.self.invariant.same)

pub invariant_of-self-in-Ok-push : goal.invariant_of-self-in-Ok-push
invariant_of-self-in-Ok-push g c =
    let es = c.self.inside.entries in
    let ps = c.self.inside.order in
    let small : suc (length ps) < 2 ^ 32 = subst (λ (l : List ℕ). length l < 2 ^ 32) c.in-Ok.ensures.ok c.in-Ok.ensures.small in
    rw c.in-Ok.ensures.ok (table_more es _ ps (c.args.k, c.args.v) c.self.invariant c.in-Ok-push.ensures.ok small)

pub returns-in-Ok-push-clause-ok : goal.returns-in-Ok-push-clause-ok
returns-in-Ok-push-clause-ok g c =
    let es = c.self.inside.entries in
    let ps = c.self.inside.order in
    rw (← c.self.view_is, c.in-Ok.ensures.ok) (more_order es _ ps (c.args.k, c.args.v) c.self.invariant c.in-Ok-push.ensures.ok)

pub invariant_of-self-in-Err : goal.invariant_of-self-in-Err
invariant_of-self-in-Err g c =
    rw (undone_by _ _ _ _ c.in-Ok.ensures.ok c.first-place.ensures c.remove.ensures, c.in-Err.ensures.err) c.self.invariant

pub returns-in-Err-clause-err : goal.returns-in-Err-clause-err
returns-in-Err-clause-err g c =
    rw (undone_by _ _ _ _ c.in-Ok.ensures.ok c.first-place.ensures c.remove.ensures)
    (ap (λ (l : List (g.row.K.Denot × g.row.V.Denot)). in_order l c.self.inside.order) c.in-Err.ensures.err ∙ c.self.view_is)
