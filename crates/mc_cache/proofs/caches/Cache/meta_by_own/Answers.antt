use Rattle.mc_request.specs.Parts.{key_in}
use Rattle.mc_cache.specs.Settling.{settled}
use Rattle.mc_cache.proofs.MetaReplyLemmas.{told_under}
use Rattle.mc_cache.proofs.caches.Cache.meta_by_own.Goals as goal

pub returns-in-Update-clause-step : goal.returns-in-Update-clause-step
returns-in-Update-clause-step g c =
    rw (c.in-Update.is, c.tell.ensures.refusal)
    (told_under (settled c.args.self.now (key_in c.in-Update.update) c.args.moment) c.in-Update.update c.args.moment _ c.update_by_own-reply.new.self c.in-Update.show
    c.update_by_own-reply.result c.tell.result c.update_by_own-reply.ensures.step c.tell.ensures.told)
