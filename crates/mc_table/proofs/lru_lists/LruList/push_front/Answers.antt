use Rattle.std.proofs.Common.{◌≡◌, ℕ, suc, ◌∷◌, List, length, ap, ◌∙◌, arith}
use Rattle.mc_table.proofs.OrderLemmas.{ring_at, places_at, refilled, more_sides, more_ring, linked_length, ring_small}
use Rattle.mc_table.proofs.lru_lists.LruList.push_front.Goals as goal

pub link_before-requires-clause-next : goal.link_before-requires-clause-next
link_before-requires-clause-next c = (more_sides _ _ _ c.self.invariant (c.as_mut_slice-links.ensures.value ∙ c.in_ok-push.ensures.items)).own

pub link_before-requires-clause-before : goal.link_before-requires-clause-before
link_before-requires-clause-before c = (more_sides _ _ _ c.self.invariant (c.as_mut_slice-links.ensures.value ∙ c.in_ok-push.ensures.items)).before

pub invariant_of-self-2 : goal.invariant_of-self-2
invariant_of-self-2 c =
    let at : c.len-place.result ≡ length c.self.inside.links.items = omega (arith, c.len-place.ensures, c.self.inside.links.ok.0) in
    ring_at _ _ _
    (refilled c.push.new.self c.link_before.new.links (linked_length _ _ _ _ c.link_before.ensures ∙ ap length c.as_mut_slice-links.ensures.value))
    (more_ring _ _ _ _ _ c.self.invariant at (omega (arith, c.if-place.false)) (c.as_mut_slice-links.ensures.value ∙ c.in_ok-push.ensures.items) c.link_before.ensures)

pub returns-clause-ok : goal.returns-clause-ok
returns-clause-ok c =
    let at : c.len-place.result ≡ length c.self.inside.links.items = omega (arith, c.len-place.ensures, c.self.inside.links.ok.0) in
    places_at _ _ _
    (refilled c.push.new.self c.link_before.new.links (linked_length _ _ _ _ c.link_before.ensures ∙ ap length c.as_mut_slice-links.ensures.value))
    (more_ring _ _ _ _ _ c.self.invariant at (omega (arith, c.if-place.false)) (c.as_mut_slice-links.ensures.value ∙ c.in_ok-push.ensures.items) c.link_before.ensures)
    ∙ ap (λ (l : List ℕ). suc (length l) ∷ l) c.self.view_is

pub returns-clause-small : goal.returns-clause-small
returns-clause-small c = ring_small _ (invariant_of-self-2 c)
