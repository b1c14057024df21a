use Rattle.std.proofs.Common.{refl}
use Rattle.mc_table.proofs.OrderLemmas.{own_sides, last_sides, next_sides, other_ring, last_ring}
use Rattle.mc_table.proofs.lru_lists.take_out.Goals as goal

pub unlink-requires-clause-before : goal.unlink-requires-clause-before
unlink-requires-clause-before c = (own_sides _ _ c.requires.ring c.requires.positive c.requires.within).before

pub unlink-requires-clause-after : goal.unlink-requires-clause-after
unlink-requires-clause-after c = (own_sides _ _ c.requires.ring c.requires.positive c.requires.within).after

pub unlink-requires-then-last-place-clause-before : goal.unlink-requires-then-last-place-clause-before
unlink-requires-then-last-place-clause-before c = (last_sides _ _ _ _ c.requires.ring c.requires.positive c.requires.within c.unlink.ensures refl c.if-last-place.true).before

pub unlink-requires-then-last-place-clause-after : goal.unlink-requires-then-last-place-clause-after
unlink-requires-then-last-place-clause-after c = (last_sides _ _ _ _ c.requires.ring c.requires.positive c.requires.within c.unlink.ensures refl c.if-last-place.true).after

pub link_before-requires-clause-next : goal.link_before-requires-clause-next
link_before-requires-clause-next c = (next_sides _ _ _ _ _ _ c.requires.ring c.requires.positive c.requires.within c.unlink.ensures refl c.if-last-place.true c.unlink-then-last-place.ensures refl).own

pub link_before-requires-clause-before : goal.link_before-requires-clause-before
link_before-requires-clause-before c = (next_sides _ _ _ _ _ _ c.requires.ring c.requires.positive c.requires.within c.unlink.ensures refl c.if-last-place.true c.unlink-then-last-place.ensures refl).before

pub returns-then-last-place-clause-ring : goal.returns-then-last-place-clause-ring
returns-then-last-place-clause-ring c =
    other_ring _ _ _ _ _ _ _ c.requires.ring c.requires.positive c.requires.within c.unlink.ensures refl c.if-last-place.true c.unlink-then-last-place.ensures refl c.link_before.ensures

pub returns-else-last-place-clause-ring : goal.returns-else-last-place-clause-ring
returns-else-last-place-clause-ring c = last_ring _ _ _ _ c.requires.ring c.requires.positive c.requires.within c.unlink.ensures refl c.if-last-place.false
