use Rattle.mc_account.proofs.LookupLemmas.{command_found}
use Rattle.mc_account.proofs.laws.commands_are_found.Goals as goal

pub returns : goal.returns
returns c place order numbered sized i command outcome at is =
    let found = command_found place order numbered sized i command outcome at is in
    (found.command, found.outcome)
