use Rattle.std.proofs.Common.{arith}
use Rattle.std.proofs.lemmas.Bool.Decides.{nat_tests}
use Rattle.mc_request_reader.proofs.ApartLemmas.{alone_beside}
use Rattle.mc_request_reader.proofs.apart.Apart.is_alone.Goals as goal

pub returns : goal.returns
returns c =
    let r = c.self.inside in
    let alone = alone_beside r.line.items r.block r.wanted c.self.invariant.announces in
    rw (← c.self.view_is) (λ same. alone (grind (arith, nat_tests)))
