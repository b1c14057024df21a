use Rattle.mc_account.proofs.StayingLemmas.{awaited_not_answered}
use Rattle.mc_account.proofs.laws.awaited_commands_are_not_answered.Goals as goal

pub returns : goal.returns
returns c = awaited_not_answered
