use Rattle.std.proofs.Common.{◌≡◌, suc, ◌+◌, inl, refl, arith}
use Rattle.mc_table.proofs.TableLemmas.{peek_none, peek_found, table_front, table_written, written_order}
use Rattle.mc_table.proofs.tables.Table.get_mut.Goals as goal

pub returns-in_err-index : goal.returns-in_err-index
returns-in_err-index g c =
    rw (c.from_residual.ensures, ← c.self.view_is) (refl, record { writes_back = tt; value = peek_none _ c.self.inside.entries c.self.inside.order c.in_err-index.ensures.none })

pub invariant_of-self-lent : goal.invariant_of-self-lent
invariant_of-self-lent g c =
    λ w. let within = c.in_ok-index.ensures.found.within in
    rw c.to_front.ensures (table_written _ _ c.in_ok-index.index w (table_front _ _ (c.in_ok-index.index + 1) c.self.invariant (omega arith) (omega arith)))

pub returns : goal.returns
returns g c =
    let same : c.in_ok-index.index + 1 ≡ suc c.in_ok-index.index = omega arith in
    rw (← c.self.view_is) (
      (λ i. inl (c.value_mut.result.ghost_name, λ w. (written_order _ c.self.inside.entries c.self.inside.order _ _ (c.in_ok-index.index + 1) w c.self.invariant c.in_ok-index.ensures.found same c.to_front.ensures) i)),
      record { writes_back = tt; value = peek_found _ _ _ _ _ c.self.invariant c.in_ok-index.ensures.found c.value_mut.ensures.value },
    )
