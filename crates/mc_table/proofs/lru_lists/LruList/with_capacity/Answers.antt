use Rattle.std.proofs.Common.{List, [], ◌∷◌, ◌++◌, ap, ◌∙◌}
use Rattle.mc_table.specs.declared.lru_nodes.LruNode.{LruNode}
use Rattle.mc_table.specs.Rings.{no_link}
use Rattle.mc_table.proofs.OrderLemmas.{ring_at, places_at, ring_none}
use Rattle.mc_table.proofs.lru_lists.LruList.with_capacity.Goals as goal

pub invariant_of-result : goal.invariant_of-result
invariant_of-result c =
    ring_at _ (no_link ∷ []) [] (c.in_ok-push.ensures.items ∙ ap (λ (l : List LruNode). l ++ no_link ∷ []) c.in_ok-links.ensures.items) ring_none

pub returns : goal.returns
returns c =
    places_at _ (no_link ∷ []) [] (c.in_ok-push.ensures.items ∙ ap (λ (l : List LruNode). l ++ no_link ∷ []) c.in_ok-links.ensures.items) ring_none
