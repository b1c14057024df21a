use Rattle.mc_account.proofs.HoldsLemmas.{holds-fed}
use Rattle.mc_account.proofs.laws.pieces_hold.Goals as goal

pub returns : goal.returns
returns c texts sent order lanes number piece old new h given steps = holds-fed texts sent order lanes number piece old new h steps
