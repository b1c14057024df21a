use Rattle.mc_account.proofs.CountLemmas.{answered-emitted, answered-fed, answered-idle_emit, answered-lost, answered-replied, answered-sent, answered-turn}
use Rattle.mc_account.proofs.laws.answered_requests_are_counted.Goals as goal

pub returns-clause-emit : goal.returns-clause-emit
returns-clause-emit c = answered-emitted

pub returns-clause-idle : goal.returns-clause-idle
returns-clause-idle c = answered-idle_emit

pub returns-clause-turn : goal.returns-clause-turn
returns-clause-turn c = answered-turn

pub returns-clause-fed : goal.returns-clause-fed
returns-clause-fed c = answered-fed

pub returns-clause-sent : goal.returns-clause-sent
returns-clause-sent c = answered-sent

pub returns-clause-replied : goal.returns-clause-replied
returns-clause-replied c = answered-replied

pub returns-clause-lost : goal.returns-clause-lost
returns-clause-lost c = answered-lost
