use Rattle.mc_pool_laws.proofs.SentLemmas.{first_reply}
use Rattle.mc_pool_laws.proofs.refusals.no_reply_of_another_cache.Goals as goal

pub returns : goal.returns
returns c home losses ring opening texts outs histories log place atom e es is sent differ account =
    differ (first_reply home losses ring opening account.0 texts outs histories log account.1 place atom e es is sent)
