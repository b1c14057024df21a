use Rattle.mc_account.proofs.HoldsLemmas.{holds-took}
use Rattle.mc_account.proofs.laws.taken_requests_hold.Goals as goal

pub returns : goal.returns
returns c = holds-took
