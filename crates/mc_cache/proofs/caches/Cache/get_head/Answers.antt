use Rattle.std.proofs.Common.{Some, refl}
use Rattle.mc_cache.specs.Admissions.{body_of}
use Rattle.mc_cache.specs.CacheState.{front_value}
use Rattle.mc_cache.specs.Settling.{settled}
use Rattle.mc_cache.proofs.GetLemmas.{got_plain, held-short}
use Rattle.mc_cache.proofs.caches.Cache.get_head.Goals as goal

-- what was found is shown from the front
pub returns-clause-hit : goal.returns-clause-hit
returns-clause-hit g c =
    got_plain (settled c.args.self.now (Some c.args.key.now) c.args.moment) c.settle_in_front.new.self c.args.key.now c.args.with_cas c.args.moment
    (body_of c.in-Some.found (front_value c.settle_in_front.new.self.items)) c.then_some.result
    c.in-Some.ensures.found c.in-Some.ensures.settled c.then_some.ensures

pub returns-clause-fits : goal.returns-clause-fits
returns-clause-fits g c =
    held-short c.args.self.now (settled c.args.self.now (Some c.args.key.now) c.args.moment) c.args.key.now c.args.moment
    (body_of c.in-Some.found (front_value c.settle_in_front.new.self.items)) c.settle_in_front.ensures.distinct refl c.in-Some.ensures.found
