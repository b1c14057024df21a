use Rattle.mc_request_reader.specs.Peeks.{front_by, get_of}
use Rattle.mc_request_reader.proofs.ApartLemmas.{shown_beside}
use Rattle.mc_request_reader.proofs.apart_reader.ApartReader.look.Goals as goal

pub returns-in-Get-clause-seen : goal.returns-in-Get-clause-seen
returns-in-Get-clause-seen c =
    let get = c.in-Get.get in
    rw (← c.self.view_is) (shown_beside c.self.inside.apart c.self.inside.reader (get_of get) get.front c.self.invariant.idle c.in-Get.ensures.seen)

pub returns-in-Line-clause-seen : goal.returns-in-Line-clause-seen
returns-in-Line-clause-seen c =
    let line = c.in-Line.line in
    rw (← c.self.view_is) (λ what alone. shown_beside c.self.inside.apart c.self.inside.reader what (front_by line what) c.self.invariant.idle (c.in-Line.ensures.seen what alone))
