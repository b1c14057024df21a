use Rattle.mc_account.proofs.LookupLemmas.{all_waiting_are_awaited, answered_was_awaited, waiting_is_awaited}
use Rattle.mc_account.proofs.laws.waiting_commands_are_awaited.Goals as goal

pub returns-clause-each : goal.returns-clause-each
returns-clause-each c = waiting_is_awaited

pub returns-clause-all : goal.returns-clause-all
returns-clause-all c = all_waiting_are_awaited

pub returns-clause-replied : goal.returns-clause-replied
returns-clause-replied c = answered_was_awaited
