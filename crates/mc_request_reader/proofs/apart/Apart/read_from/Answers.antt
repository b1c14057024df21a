use Rattle.std.proofs.Common.{List, ℕ, ap}
use Rattle.std.proofs.lemmas.Option.{IfSome_then}
use Rattle.mc_request_reader.specs.ApartFields.{joined}
use Rattle.mc_request_reader.proofs.ApartLemmas.{little_beside}
use Rattle.mc_request_reader.proofs.ReadLemmas.{comes_beside, reads_as}
use Rattle.mc_request_reader.proofs.apart.Apart.read_from.Goals as goal

-- what was read is more of the block
pub returns-clause-read : goal.returns-clause-read
returns-clause-read g c =
    let r = c.self.inside in
    rw (← c.self.view_is)
    (IfSome_then c.read_from.result c.read_from.ensures.read (λ read h. reads_as read _ _ _ _ _ _
    (λ came e. comes_beside r.line.items r.block c.read_from.new.self came e)
    (λ e. ap (λ (bytes : List ℕ). joined r.line.items bytes) e) h))

pub returns-clause-little : goal.returns-clause-little
returns-clause-little g c = little_beside _ _ c.self.inside.wanted c.self.invariant.announces
