use Rattle.std.proofs.Common.{true, false, [], ap}
use Rattle.mc_reply.specs.Replies.{filled}
use Rattle.mc_reply.specs.declared.replies.Reply.TheVariants.{Stored}
use Rattle.mc_cache.proofs.MetaReplyLemmas.{made_value}
use Rattle.mc_cache.proofs.caches.Cache.show_made.Goals as goal

pub returns-in-Ok-clause-same : goal.returns-in-Ok-clause-same
returns-in-Ok-clause-same g c =
    ap (filled c.show_front.result)
    (made_value c.args.self.now c.make.new.self c.args.key.now (record { flags = 0; expiry = c.of.result; won = true; value = [] }) false (c.in-Ok.ensures.step Stored))
