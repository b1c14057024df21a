use Rattle.mc_route.proofs.LossLemmas.{joined-line, joined-silent}
use Rattle.mc_route.proofs.laws.lost_requests_are_not_confirmed.Goals as goal

pub returns-clause-line : goal.returns-clause-line
returns-clause-line c = joined-line

pub returns-clause-hidden : goal.returns-clause-hidden
returns-clause-hidden c = joined-silent
