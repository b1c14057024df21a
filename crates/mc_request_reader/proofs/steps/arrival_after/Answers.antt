use Rattle.std.proofs.Common.{refl, arith}
use Rattle.mc_request.specs.Meanings.{Alone}
use Rattle.mc_request.specs.LinesSeen.{asked_of, storing_of}
use Rattle.mc_request_reader.proofs.StepLemmas.{starts_now, refused, stores_short, stores_from, block_is_after}
use Rattle.mc_request.proofs.WellFormedLemmas.{refuses_nothing_closed, stores_little}
use Rattle.mc_request_reader.proofs.steps.arrival_after.Goals as goal

-- what has no block is whole
pub returns-in-Alone : goal.returns-in-Alone
returns-in-Alone c =
    (c.requires.line, rw (starts_now c.args.unread.now (Alone (asked_of c.in-Alone.field-0)) c.args.taken (rw c.in-Alone.is at c.requires.starts)) refl)

pub returns-in-Refuses : goal.returns-in-Refuses
returns-in-Refuses c =
    let starts = rw c.in-Refuses.is at c.requires.starts in
    let good = rw c.in-Refuses.is at c.requires.good in
    rw c.size_with_block.ensures (
      refuses_nothing_closed c.in-Refuses.fault good,
      block_is_after c.args.unread.now c.args.taken _ c.in-Refuses.len starts refl c.requires.waits,
      refused c.args.unread.now c.args.taken c.in-Refuses.fault c.in-Refuses.len starts,
    )

pub returns-in-Stores : goal.returns-in-Stores
returns-in-Stores c =
    let starts = rw c.in-Stores.is at c.requires.starts in
    let good = rw c.in-Stores.is at c.requires.good in
    let s = storing_of c.in-Stores.field-0 in
    rw c.size_with_block-in-Stores.ensures (record {
      searched = c.requires.line;
      short = stores_short c.args.unread.now c.args.taken s c.in-Stores.len starts;
      few = block_is_after c.args.unread.now c.args.taken _ c.in-Stores.len starts refl c.requires.waits;
      limit = omega (arith, starts.limit, stores_little s c.in-Stores.len good);
      whole = λ sure. stores_from c.args.unread.now c.args.taken s c.in-Stores.len starts;
    })
