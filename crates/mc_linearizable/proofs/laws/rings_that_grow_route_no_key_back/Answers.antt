use Rattle.mc_linearizable.proofs.LinearLemmas.{not_back, not_back_kept, not_back_unjoined}
use Rattle.mc_linearizable.proofs.laws.rings_that_grow_route_no_key_back.Goals as goal

pub returns-clause-kept : goal.returns-clause-kept
returns-clause-kept c = not_back_kept

pub returns-clause-grown : goal.returns-clause-grown
returns-clause-grown c = not_back

pub returns-clause-unjoined : goal.returns-clause-unjoined
returns-clause-unjoined c = not_back_unjoined
