use Rattle.mc_account.proofs.LinkLemmas.{holds-joined}
use Rattle.mc_account.proofs.laws.joined_servers_hold.Goals as goal

pub returns : goal.returns
returns c = holds-joined
