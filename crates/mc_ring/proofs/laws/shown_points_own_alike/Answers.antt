use Rattle.mc_ring.proofs.OwnerLemmas.{owner_of-same}
use Rattle.mc_ring.proofs.laws.shown_points_own_alike.Goals as goal

pub returns : goal.returns
returns c = λ pairs points hash shows. owner_of-same hash points pairs shows.same
