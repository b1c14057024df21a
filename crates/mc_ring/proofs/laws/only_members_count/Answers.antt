use Rattle.mc_ring.proofs.OwnerLemmas.{owner_of-same}
use Rattle.mc_ring.proofs.laws.only_members_count.Goals as goal

pub returns : goal.returns
returns c = λ pairs others hash same. owner_of-same hash pairs others same
