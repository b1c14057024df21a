use Rattle.std.proofs.Common.{◌+◌, ◌<◌, ◌≤◌, length, refl, sym, ◌∙◌, arith}
use Rattle.mc_request.specs.Meanings.{Alone}
use Rattle.mc_request.specs.LinesSeen.{asked_of, storing_of}
use Rattle.mc_request_reader.proofs.StepLemmas.{starts_now, refuses_whole, refuses_waits, stores_waits, stores_whole}
use Rattle.mc_request_reader.proofs.steps.asked_after.Goals as goal

pub returns-in-Alone : goal.returns-in-Alone
returns-in-Alone c = sym (starts_now c.args.unread.now (Alone (asked_of c.in-Alone.asked)) c.args.taken (rw c.in-Alone.is at c.requires))

pub returns-then-unread-size : goal.returns-then-unread-size
returns-then-unread-size c =
    let starts = rw c.in-Refuses.is at c.requires in
    let short : length c.args.unread.now < c.args.taken + (c.in-Refuses.len + 2) = omega (arith, c.size_with_block-size.ensures, c.if-unread-size.true) in
    sym (refuses_waits c.args.unread.now c.args.taken c.in-Refuses.fault c.in-Refuses.len starts short)

pub returns-else-unread-size : goal.returns-else-unread-size
returns-else-unread-size c =
    let starts = rw c.in-Refuses.is at c.requires in
    let whole : c.args.taken + (c.in-Refuses.len + 2) ≤ length c.args.unread.now = omega (arith, c.size_with_block-size.ensures, c.if-unread-size.false) in
    rw c.size_with_block-size.ensures (sym (refuses_whole c.args.unread.now c.args.taken c.in-Refuses.fault c.in-Refuses.len starts whole))

pub returns-then-unread-size-2 : goal.returns-then-unread-size-2
returns-then-unread-size-2 c =
    let starts = rw c.in-Stores.is at c.requires in
    let short : length c.args.unread.now < c.args.taken + (c.in-Stores.len + 2) = omega (arith, c.size_with_block-size-in-Stores.ensures, c.if-unread-size-2.true) in
    sym (stores_waits c.args.unread.now c.args.taken (storing_of c.in-Stores.storing) c.in-Stores.len starts short)

pub returns-else-unread-size-2 : goal.returns-else-unread-size-2
returns-else-unread-size-2 c =
    let starts = rw c.in-Stores.is at c.requires in
    let whole : c.args.taken + (c.in-Stores.len + 2) ≤ length c.args.unread.now = omega (arith, c.size_with_block-size-in-Stores.ensures, c.if-unread-size-2.false) in
    rw c.size_with_block-size-in-Stores.ensures (sym (stores_whole c.args.unread.now c.args.taken (storing_of c.in-Stores.storing) c.in-Stores.len starts whole
    ∙ rw (c.with_block.ensures, c.split_at-in-Stores-2.ensures.front, c.split_at-in-Stores.ensures.front, c.split_at-in-Stores.ensures.back, c.split_at.ensures.back) refl))
