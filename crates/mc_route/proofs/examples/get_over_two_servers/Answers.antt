use Rattle.std.proofs.Common.{refl}
use Rattle.mc_text.specs.Words.{words}
use Rattle.mc_request.specs.Names.{name_of}
use Rattle.mc_ring.specs.Owners.{holder_of}
use Rattle.mc_ring.proofs.HashLemmas.{hash_of-a, hash_of-abc}
use Rattle.mc_route.proofs.examples.get_over_two_servers.Goals as goal

pub returns : goal.returns
unfolding words name_of holder_of
returns c = rw (hash_of-a, hash_of-abc) refl
