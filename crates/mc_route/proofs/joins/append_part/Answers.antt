use Rattle.std.proofs.Common.{◌++◌, List, ℕ, map, ap}
use Rattle.mc_route.specs.Losses.{reply_or_miss}
use Rattle.mc_route.proofs.JoinLemmas.{one_part}
use Rattle.mc_route.proofs.joins.append_part.Goals as goal

-- the one reply's part is the answer
pub returns-clause-items : goal.returns-clause-items
returns-clause-items c others =
    let written = rw c.unwrap.ensures at c.write_part.ensures.ok in
    let request = c.args.request.now in
    rw (written, c.reply_or_miss-reply.ensures.reply)
    (ap (λ (part : List ℕ). c.args.out.now.items ++ part) (one_part request (reply_or_miss c.args.outcome.now) (map reply_or_miss others) c.requires.one))
