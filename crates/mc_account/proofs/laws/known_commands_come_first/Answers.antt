use Rattle.mc_account.proofs.RisingLemmas.{told_before_waiting, waiting_in_order}
use Rattle.mc_account.proofs.ThereLemmas.{known_before_waiting}
use Rattle.mc_account.proofs.laws.known_commands_come_first.Goals as goal

pub returns-clause-known : goal.returns-clause-known
returns-clause-known c = told_before_waiting

pub returns-clause-named : goal.returns-clause-named
returns-clause-named c = known_before_waiting

pub returns-clause-waiting : goal.returns-clause-waiting
returns-clause-waiting c = waiting_in_order
