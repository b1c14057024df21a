use Rattle.mc_account.proofs.StayingLemmas.{answers_lost, answers_replied}
use Rattle.mc_account.proofs.laws.answers_stay_at_links.Goals as goal

pub returns-clause-replied : goal.returns-clause-replied
returns-clause-replied c = answers_replied

pub returns-clause-lost : goal.returns-clause-lost
returns-clause-lost c = answers_lost
