use Rattle.std.proofs.Common.{ap, ◌∙◌}
use Rattle.mc_table.specs.declared.lru_nodes.LruNode.{LruNode}
use Rattle.mc_table.specs.Places.{last_of}
use Rattle.mc_table.proofs.OrderLemmas.{zero_read, ring_last}
use Rattle.mc_table.proofs.lru_lists.LruList.last.Goals as goal

pub returns : goal.returns
returns c =
    ap (λ (l : LruNode). l.before) (zero_read _ _ _ c.self.invariant c.index.ensures) ∙ ring_last _ c.self.invariant ∙ ap last_of c.self.view_is
