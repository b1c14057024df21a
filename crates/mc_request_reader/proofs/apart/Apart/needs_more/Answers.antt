use Rattle.std.proofs.Common.{arith}
use Rattle.std.proofs.lemmas.Bool.Decides.{nat_tests}
use Rattle.mc_request_reader.proofs.ApartLemmas.{short_beside}
use Rattle.mc_request_reader.proofs.apart.Apart.needs_more.Goals as goal

pub returns : goal.returns
returns c =
    let r = c.self.inside in
    let short = short_beside r.line.items r.block r.wanted c.self.invariant.announces in
    rw (← c.self.view_is) (λ few. short (grind (arith, nat_tests)))
