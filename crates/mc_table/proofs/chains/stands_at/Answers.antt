use Rattle.std.proofs.Common.{◌-◌, sym, ◌∙◌, arith}
use Rattle.mc_table.proofs.SlotLemmas.{map_got}
use Rattle.mc_table.proofs.chains.stands_at.Goals as goal

pub returns : goal.returns
returns g c =
    let slots = c.args.slots.now.items in
    let slot = c.index-slot.result.now in
    λ stands. (omega arith, ((slot.key, slot.value), map_got (λ s. (s.key, s.value)) slots (c.args.place - 1) slot (omega (arith, c.len.ensures)) c.index-slot.ensures, sym c.equivalent.ensures ∙ stands))
