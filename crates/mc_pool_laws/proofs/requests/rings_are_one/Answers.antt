use Rattle.mc_pool_laws.proofs.OneRing.{ring_one}
use Rattle.mc_pool_laws.proofs.requests.rings_are_one.Goals as goal

pub returns : goal.returns
returns c = ring_one
