use Rattle.mc_table.proofs.OrderLemmas.{own_sides, brought_sides, brought_ring}
use Rattle.mc_table.proofs.lru_lists.bring.Goals as goal

pub unlink-requires-clause-before : goal.unlink-requires-clause-before
unlink-requires-clause-before c = (own_sides _ _ c.requires.ring c.requires.positive c.requires.within).before

pub unlink-requires-clause-after : goal.unlink-requires-clause-after
unlink-requires-clause-after c = (own_sides _ _ c.requires.ring c.requires.positive c.requires.within).after

pub link_before-requires-clause-next : goal.link_before-requires-clause-next
link_before-requires-clause-next c = (brought_sides _ _ _ c.requires.ring c.requires.positive c.requires.within c.unlink.ensures).own

pub link_before-requires-clause-before : goal.link_before-requires-clause-before
link_before-requires-clause-before c = (brought_sides _ _ _ c.requires.ring c.requires.positive c.requires.within c.unlink.ensures).before

pub returns-clause-ring : goal.returns-clause-ring
returns-clause-ring c = brought_ring _ _ _ _ c.requires.ring c.requires.positive c.requires.within c.unlink.ensures c.link_before.ensures
