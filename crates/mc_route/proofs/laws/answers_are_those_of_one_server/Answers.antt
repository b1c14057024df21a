use Rattle.mc_route.proofs.JoinLemmas.{joined-came, joined-lost}
use Rattle.mc_route.proofs.laws.answers_are_those_of_one_server.Goals as goal

pub returns-clause-came : goal.returns-clause-came
returns-clause-came c = joined-came

pub returns-clause-lost : goal.returns-clause-lost
returns-clause-lost c = joined-lost
