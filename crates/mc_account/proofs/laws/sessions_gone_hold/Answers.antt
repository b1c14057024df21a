use Rattle.mc_account.proofs.HoldsLemmas.{holds-gone}
use Rattle.mc_account.proofs.laws.sessions_gone_hold.Goals as goal

pub returns : goal.returns
returns c = holds-gone
