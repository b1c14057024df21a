use Rattle.mc_request_reader.proofs.ApartLemmas.{little_beside}
use Rattle.mc_request_reader.proofs.apart.Apart.append.Goals as goal

pub returns-in_err-append-clause-little : goal.returns-in_err-append-clause-little
returns-in_err-append-clause-little c = little_beside _ _ c.self.inside.wanted c.self.invariant.announces

pub returns-clause-little : goal.returns-clause-little
returns-clause-little c = little_beside _ _ c.self.inside.wanted c.self.invariant.announces
