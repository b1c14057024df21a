use Rattle.mc_cache.proofs.HeldLemmas.{held-replaced}
use Rattle.mc_cache.proofs.caches.Cache.put_if_held.Goals as goal

pub invariant_of-self : goal.invariant_of-self
invariant_of-self g c =
    (held-replaced _ _ _ _ _ _ _ _ _ c.in-Ok.is c.replace.ensures.ok c.keep.ensures.items c.self.invariant.0, rw (c.keep.ensures.most, c.replace.ensures.most) c.self.invariant.1)
