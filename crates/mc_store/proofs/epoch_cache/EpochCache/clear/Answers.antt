use Rattle.std.proofs.Common.{◌≡◌, ◌+◌, arith}
use Rattle.mc_store.proofs.EpochLemmas.{all_dead, same_room}
use Rattle.mc_store.proofs.epoch_cache.EpochCache.clear.Goals as goal

pub invariant_of-self : goal.invariant_of-self
invariant_of-self g c = (rw c.clear.ensures.entries tt, same_room _ _ _ c.self.invariant.1 c.clear.ensures.room)

pub invariant_of-self-2 : goal.invariant_of-self-2
invariant_of-self-2 g c =
    let is : c.in-Some.next ≡ c.self.inside.epoch + 1 = omega (arith, c.in-Some.ensures) in
    (all_dead c.self.inside.epoch c.self.inside.count c.in-Some.next (g.M.Recent.entries c.self.inside.cache) c.self.invariant.0 is, c.self.invariant.1)
