use Rattle.std.proofs.Common.{◌∙◌, ap}
use Rattle.mc_request_reader.specs.Peeks.{front_of}
use Rattle.mc_request_reader.proofs.ApartLemmas.{rest_beside}
use Rattle.mc_request_reader.proofs.apart.Apart.go_on.Goals as goal

pub returns-then-len-self-clause-rest : goal.returns-then-len-self-clause-rest
returns-then-len-self-clause-rest c =
    let r = c.self.inside in
    let shown = ap front_of c.self.view_is ∙ c.requires.shown in
    rw (← c.self.view_is) (rest_beside r.line.items r.block r.wanted c.args.front c.of_buffer.result c.self.invariant.announces shown
    (rw c.take.ensures at c.of_buffer.ensures.rest) c.of_buffer.ensures.closed)
