use Rattle.mc_account.proofs.RisingLemmas.{commands_rise}
use Rattle.mc_account.proofs.laws.commands_rise.Goals as goal

pub returns : goal.returns
returns c = commands_rise
