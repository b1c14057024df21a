use Rattle.mc_request_reader.proofs.ApartLemmas.{ready_beside}
use Rattle.mc_request_reader.proofs.apart.Apart.ready.Goals as goal

pub returns : goal.returns
returns c =
    let r = c.self.inside in
    rw (← c.self.view_is) (ready_beside r.line.items r.block r.wanted c.len.result c.self.invariant.announces c.len.ensures)
