use Rattle.mc_pool_laws.proofs.NeedLemmas.{without_asked, without_turns}
use Rattle.mc_pool_laws.proofs.StrayExample.{without_followed, without_numbered, without_turns_in_order}
use Rattle.mc_pool_laws.proofs.needs.requests_need_their_clauses.Goals as goal

pub returns-clause-asked : goal.returns-clause-asked
returns-clause-asked c = without_asked

pub returns-clause-turns : goal.returns-clause-turns
returns-clause-turns c = without_turns

pub returns-clause-turns_in_order : goal.returns-clause-turns_in_order
returns-clause-turns_in_order c = without_turns_in_order

pub returns-clause-numbered : goal.returns-clause-numbered
returns-clause-numbered c = without_numbered

pub returns-clause-followed : goal.returns-clause-followed
returns-clause-followed c = without_followed
