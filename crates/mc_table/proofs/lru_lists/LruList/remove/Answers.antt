use Rattle.std.proofs.Common.{ℕ, List, length, ap, ◌∙◌}
use Rattle.mc_table.specs.Places.{left_out, renumbered}
use Rattle.mc_table.specs.Rings.{places_of}
use Rattle.mc_table.proofs.OrderLemmas.{ring_at, places_at, popped}
use Rattle.mc_table.proofs.lru_lists.LruList.remove.Goals as goal

pub invariant_of-self : goal.invariant_of-self
invariant_of-self c =
    ring_at _ _ _ (popped c.self.inside.links c.take_out.new.links _ (c.take_out.ensures.length ∙ ap length c.as_mut_slice.ensures.value) c.pop.ensures.rest) c.take_out.ensures.ring

pub returns : goal.returns
returns c =
    places_at _ _ _ (popped c.self.inside.links c.take_out.new.links _ (c.take_out.ensures.length ∙ ap length c.as_mut_slice.ensures.value) c.pop.ensures.rest) c.take_out.ensures.ring
    ∙ ap (λ (l : List ℕ). renumbered (length l) c.args.place (left_out c.args.place l)) (ap places_of c.as_mut_slice.ensures.value ∙ c.self.view_is)
