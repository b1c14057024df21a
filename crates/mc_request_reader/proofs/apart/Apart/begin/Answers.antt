use Rattle.mc_request_reader.proofs.ApartLemmas.{little_beside}
use Rattle.mc_request_reader.proofs.apart.Apart.begin.Goals as goal

pub returns-clause-little : goal.returns-clause-little
returns-clause-little c = little_beside _ _ c.in_ok-line.wanted (rw c.in-Ok.ensures.items c.in_ok-line.ensures.announces)
