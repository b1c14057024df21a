use Rattle.std.proofs.Common.{◌<◌, length, [], ◌∷◌, ap, ◌∙◌, arith}
use Rattle.std.proofs.lemmas.List.{length-set}
use Rattle.mc_table.specs.Rings.{no_link}
use Rattle.mc_table.proofs.OrderLemmas.{ring_at, places_at, ring_none, refilled, cleared}
use Rattle.mc_table.proofs.lru_lists.LruList.clear.Goals as goal

pub invariant_of-self : goal.invariant_of-self
invariant_of-self c =
    let some : 0 < length c.self.inside.links.items = omega (arith, c.self.invariant.count) in
    ring_at _ (no_link ∷ []) []
    (refilled c.truncate.new.self _ (length-set c.as_mut_slice-links.result.now 0 no_link ∙ ap length c.as_mut_slice-links.ensures.value)
    ∙ cleared _ _ some (c.as_mut_slice-links.ensures.value ∙ c.truncate.ensures.items)) ring_none

pub returns : goal.returns
returns c =
    let some : 0 < length c.self.inside.links.items = omega (arith, c.self.invariant.count) in
    places_at _ (no_link ∷ []) []
    (refilled c.truncate.new.self _ (length-set c.as_mut_slice-links.result.now 0 no_link ∙ ap length c.as_mut_slice-links.ensures.value)
    ∙ cleared _ _ some (c.as_mut_slice-links.ensures.value ∙ c.truncate.ensures.items)) ring_none
