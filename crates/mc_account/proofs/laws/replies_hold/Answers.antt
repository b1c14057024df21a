use Rattle.mc_account.proofs.LinkLemmas.{holds-replied}
use Rattle.mc_account.proofs.laws.replies_hold.Goals as goal

pub returns : goal.returns
returns c = holds-replied
