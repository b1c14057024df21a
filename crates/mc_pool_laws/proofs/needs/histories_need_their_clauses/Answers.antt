use Rattle.mc_pool_laws.proofs.LateExample.{without_unanswered}
use Rattle.mc_pool_laws.proofs.NeedLemmas.{without_legal, without_moments, without_once, without_placed}
use Rattle.mc_pool_laws.proofs.needs.histories_need_their_clauses.Goals as goal

pub returns-clause-legal : goal.returns-clause-legal
returns-clause-legal c = without_legal

pub returns-clause-once : goal.returns-clause-once
returns-clause-once c = without_once

pub returns-clause-moments : goal.returns-clause-moments
returns-clause-moments c = without_moments

pub returns-clause-placed : goal.returns-clause-placed
returns-clause-placed c = without_placed

pub returns-clause-unanswered : goal.returns-clause-unanswered
returns-clause-unanswered c = without_unanswered
