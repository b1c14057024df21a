use Rattle.std.proofs.Common.{◌<◌, length, ap, arith}
use Rattle.mc_table.proofs.SlotLemmas.{length-entries_of}
use Rattle.mc_table.proofs.HashedLemmas.{hashed_taken}
use Rattle.mc_table.proofs.hash_indexes.HashIndex.swap_remove.Goals as goal

pub invariant_of-self : goal.invariant_of-self
invariant_of-self g c =
    let slots = c.self.inside.slots.items in
    let within : c.args.index < length slots = omega (arith, c.requires, ap length c.self.view_is, length-entries_of slots) in
    hashed_taken _ _ _ _ slots _ c.args.index _ c.self.invariant within c.take_out-slot.ensures.chained c.take_out-slot.ensures.entries c.take_out-slot.ensures.tags c.take_out-slot.ensures.buckets
