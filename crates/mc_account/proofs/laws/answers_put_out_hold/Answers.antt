use Rattle.mc_account.proofs.HoldsLemmas.{holds-emitted}
use Rattle.mc_account.proofs.laws.answers_put_out_hold.Goals as goal

pub returns : goal.returns
returns c = holds-emitted
