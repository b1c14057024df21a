use Rattle.mc_ring.proofs.HashLemmas.{hash_of-a}
use Rattle.mc_ring.proofs.examples.hash_of_a.Goals as goal

pub returns : goal.returns
returns c = hash_of-a
