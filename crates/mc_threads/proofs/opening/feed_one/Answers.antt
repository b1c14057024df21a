use Rattle.std.proofs.Common.{arith}
use Rattle.std.proofs.lemmas.List.{get_or_default}
use Rattle.mc_threads.proofs.TalkLemmas.{talks_fed}
use Rattle.mc_threads.proofs.opening.feed_one.Goals as goal

pub returns : goal.returns
returns c = λ ring clients texts outs went came h.
    talks_fed ring clients texts outs went came c.args.client c.args.piece.now c.args.proxy.now c.feed.new.self
    (λ k d below. let fits = c.type_inv.piece k in let same = get_or_default c.args.piece.now k d 0 below in omega (arith, fits, same)) h c.in_ok-feed.ensures.fed
