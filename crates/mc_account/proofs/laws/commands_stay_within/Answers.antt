use Rattle.mc_account.proofs.WithinLemmas.{commands_within}
use Rattle.mc_account.proofs.laws.commands_stay_within.Goals as goal

pub returns : goal.returns
returns c = commands_within
