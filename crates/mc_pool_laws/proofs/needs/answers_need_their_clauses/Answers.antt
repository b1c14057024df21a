use Rattle.mc_pool_laws.proofs.NeedLemmas.{without_after, without_answered, without_lost, without_put, without_replied, without_rings, without_sized}
use Rattle.mc_pool_laws.proofs.needs.answers_need_their_clauses.Goals as goal

pub returns-clause-after : goal.returns-clause-after
returns-clause-after c = without_after

pub returns-clause-put : goal.returns-clause-put
returns-clause-put c = without_put

pub returns-clause-sized : goal.returns-clause-sized
returns-clause-sized c = without_sized

pub returns-clause-answered : goal.returns-clause-answered
returns-clause-answered c = without_answered

pub returns-clause-replied : goal.returns-clause-replied
returns-clause-replied c = without_replied

pub returns-clause-lost : goal.returns-clause-lost
returns-clause-lost c = without_lost

pub returns-clause-rings : goal.returns-clause-rings
returns-clause-rings c = without_rings
