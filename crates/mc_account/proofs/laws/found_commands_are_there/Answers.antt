use Rattle.mc_account.proofs.ThereLemmas.{command_is_there}
use Rattle.mc_account.proofs.laws.found_commands_are_there.Goals as goal

pub returns : goal.returns
returns c = command_is_there
