use Rattle.std.proofs.Common.{◌≡◌, ℕ, ◌∷◌, List, length, ap, sym, ◌∙◌, subst}
use Rattle.mc_table.specs.declared.lru_nodes.LruNode.{LruNode}
use Rattle.mc_table.specs.Places.{left_out}
use Rattle.mc_table.specs.Rings.{places_of}
use Rattle.mc_table.proofs.OrderLemmas.{ring_at, places_at, refilled, zero_read, first_is}
use Rattle.mc_table.proofs.lru_lists.LruList.to_front.Goals as goal

pub invariant_of-self : goal.invariant_of-self
invariant_of-self c = ring_at _ _ _ (refilled c.self.inside.links c.bring.new.links (c.bring.ensures.length ∙ ap length c.as_mut_slice.ensures.value)) c.bring.ensures.ring

pub returns-then-index-place : goal.returns-then-index-place
returns-then-index-place c =
    places_at _ _ _ (refilled c.self.inside.links c.bring.new.links (c.bring.ensures.length ∙ ap length c.as_mut_slice.ensures.value)) c.bring.ensures.ring
    ∙ ap (λ (l : List ℕ). c.args.place ∷ left_out c.args.place l) (ap places_of c.as_mut_slice.ensures.value ∙ c.self.view_is)

pub returns-else-index-place : goal.returns-else-index-place
returns-else-index-place c =
    subst (λ (l : List ℕ). l ≡ c.args.place ∷ left_out c.args.place l) c.self.view_is
    (first_is _ _ _ c.self.invariant c.requires.positive (ap (λ (l : LruNode). l.after) (sym (zero_read _ _ _ c.self.invariant c.index.ensures)) ∙ c.if-index-place.false))
