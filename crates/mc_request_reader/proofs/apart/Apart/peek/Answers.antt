use Rattle.std.proofs.Common.{refl, sym}
use Rattle.mc_request.specs.LinesSeen.{asked_of}
use Rattle.mc_request.proofs.WellFormedLemmas.{next_request_good}
use Rattle.mc_request_reader.specs.ApartFields.{joined}
use Rattle.mc_request_reader.proofs.ReaderLemmas.{shows_whole, none_yet}
use Rattle.mc_request_reader.proofs.apart.Apart.peek.Goals as goal

pub returns-in-Some-clause-seen : goal.returns-in-Some-clause-seen
returns-in-Some-clause-seen c =
    let r = c.self.inside in
    rw (← c.self.view_is) (shows_whole (joined r.line.items r.block) (asked_of c.in-Some.asked) (record { size = c.in-Some.size; closes = c.ends-closes.result }) refl refl c.ends-closes.ensures
    (sym (rw (c.in-Some.is, c.as_slice.ensures.value, c.as_slice-2.ensures) at c.asked_beside.ensures)))

pub returns-in-Some-clause-well_formed : goal.returns-in-Some-clause-well_formed
returns-in-Some-clause-well_formed c =
    next_request_good _ (asked_of c.in-Some.asked, c.in-Some.size) (sym (rw c.in-Some.is at c.asked_beside.ensures))

pub returns-in-None-clause-seen : goal.returns-in-None-clause-seen
returns-in-None-clause-seen c =
    let r = c.self.inside in
    let s = joined r.line.items r.block in
    rw (← c.self.view_is) (none_yet s s refl refl refl (sym (rw (c.in-None.is, c.as_slice.ensures.value, c.as_slice-2.ensures) at c.asked_beside.ensures)))
