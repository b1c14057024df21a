use Rattle.mc_account.proofs.AnsweredLemmas.{holds-answered}
use Rattle.mc_account.proofs.laws.clients_are_answered.Goals as goal

pub returns : goal.returns
returns c = holds-answered
