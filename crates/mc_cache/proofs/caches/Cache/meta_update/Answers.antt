use Rattle.mc_request.specs.Parts.{key_in, update_seen}
use Rattle.mc_cache.specs.Settling.{settled}
use Rattle.mc_cache.proofs.MetaReplyLemmas.{told_outcome, told_under}
use Rattle.mc_cache.proofs.caches.Cache.meta_update.Goals as goal

pub returns-clause-step : goal.returns-clause-step
returns-clause-step g c =
    rw c.tell.ensures.refusal
    (told_under (settled c.args.self.now (key_in (update_seen c.args.update.now)) c.args.moment) (update_seen c.args.update.now) c.args.moment _ c.update.new.self c.args.show.now
    c.in_ok-reply.reply c.tell.result c.in_ok-reply.ensures.step c.tell.ensures.told)

pub returns-clause-front : goal.returns-clause-front
returns-clause-front g c =
    rw c.tell.ensures.refusal
    (told_outcome (settled c.args.self.now (key_in (update_seen c.args.update.now)) c.args.moment) (update_seen c.args.update.now) c.args.moment _ c.update.new.self c.args.show.now
    c.in_ok-reply.reply c.tell.result c.in_ok-reply.ensures.step c.tell.ensures.told)
