use Rattle.mc_ring.proofs.HashLemmas.{hash_of-abc}
use Rattle.mc_ring.proofs.examples.hash_of_abc.Goals as goal

pub returns : goal.returns
returns c = hash_of-abc
