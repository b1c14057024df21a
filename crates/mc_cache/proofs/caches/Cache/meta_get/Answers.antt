use Rattle.std.proofs.Common.{Some, refl}
use Rattle.mc_cache.specs.Settling.{settled}
use Rattle.mc_cache.proofs.GetLemmas.{meta_get-shrinks}
use Rattle.mc_cache.proofs.caches.Cache.meta_get.Goals as goal

pub returns-clause-shrinks : goal.returns-clause-shrinks
returns-clause-shrinks g c =
    meta_get-shrinks c.args.self.now (settled c.args.self.now (Some c.args.key.now) c.args.moment) c.show.new.self c.args.key.now c.args.get.now c.args.moment _ _
    c.show.ensures.distinct refl c.show.ensures.step
