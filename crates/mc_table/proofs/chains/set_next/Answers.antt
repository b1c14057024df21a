use Rattle.std.proofs.Common.{refl}
use Rattle.mc_table.proofs.SlotLemmas.{map_set, map_kept}
use Rattle.mc_table.proofs.chains.set_next.Goals as goal

pub returns-clause-nexts : goal.returns-clause-nexts
returns-clause-nexts g c = map_set (λ s. s.next) c.args.slots.now.items _ _

pub returns-clause-tags : goal.returns-clause-tags
returns-clause-tags g c = map_kept (λ s. s.tag) c.args.slots.now.items _ _ _ c.index_mut.ensures.value refl

pub returns-clause-entries : goal.returns-clause-entries
returns-clause-entries g c = map_kept (λ s. (s.key, s.value)) c.args.slots.now.items _ _ _ c.index_mut.ensures.value refl
