use Rattle.std.proofs.Common.{◌≡◌, ◌∙◌, None, ap}
use Rattle.mc_store.specs.Items.{body_at}
use Rattle.mc_cache.specs.CacheState.{CacheState}
use Rattle.mc_cache.proofs.HeldLemmas.{held-new}
use Rattle.mc_cache.proofs.caches.Cache.put_new.Goals as goal

pub invariant_of-self-2 : goal.invariant_of-self-2
invariant_of-self-2 g c =
    let absent : body_at c.args.key (g.S.Store.items c.self.inside.store) ≡ None =
    ap (λ (s : CacheState). body_at c.args.key s.items) c.self.view_is ∙ c.requires.absent in
    (held-new _ _ _ _ _ _ _ absent c.in-Ok.ensures.ok c.keep.ensures.items c.self.invariant.0, rw (c.keep.ensures.most, c.put_front.ensures.most) c.self.invariant.1)
