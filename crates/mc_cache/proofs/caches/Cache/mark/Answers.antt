use Rattle.mc_cache.proofs.HeldLemmas.{held-marking}
use Rattle.mc_cache.proofs.caches.Cache.mark.Goals as goal

pub invariant_of-self : goal.invariant_of-self
invariant_of-self g c = (held-marking _ _ _ _ _ _ _ _ c.mark.ensures.items c.self.invariant.0, rw c.mark.ensures.most c.self.invariant.1)
