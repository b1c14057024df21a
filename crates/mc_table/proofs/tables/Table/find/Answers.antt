use Rattle.mc_table.proofs.TableLemmas.{got-values, peek_found, peek_none}
use Rattle.mc_table.proofs.tables.Table.find.Goals as goal

pub returns-in_err-index : goal.returns-in_err-index
returns-in_err-index g c = rw (c.from_residual.ensures, ← c.self.view_is) (peek_none _ c.self.inside.entries c.self.inside.order c.in_err-index.ensures.none)

pub returns : goal.returns
returns g c =
    let value = got-values c.self.inside.entries c.in_ok-index.index (c.at.result.0.now, c.at.result.1.now) c.at.ensures in
    rw (← c.self.view_is) (peek_found _ _ _ _ _ c.self.invariant c.in_ok-index.ensures.found value)
