use Rattle.mc_ring.proofs.PairLemmas.{length-first_points}
use Rattle.mc_ring.proofs.laws.every_server_has_its_points.Goals as goal

pub returns : goal.returns
returns c = λ address. length-first_points address 40
