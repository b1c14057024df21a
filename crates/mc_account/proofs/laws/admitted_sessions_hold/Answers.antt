use Rattle.mc_account.proofs.HoldsLemmas.{holds-admitted}
use Rattle.mc_account.proofs.laws.admitted_sessions_hold.Goals as goal

pub returns : goal.returns
returns c = holds-admitted
