use Rattle.mc_account.proofs.LinkLemmas.{holds-lost}
use Rattle.mc_account.proofs.laws.lost_links_hold.Goals as goal

pub returns : goal.returns
returns c = holds-lost
