use Rattle.mc_account.proofs.HoldsLemmas.{holds-complete}
use Rattle.mc_account.proofs.laws.nothing_awaited_is_complete.Goals as goal

pub returns : goal.returns
returns c = holds-complete
