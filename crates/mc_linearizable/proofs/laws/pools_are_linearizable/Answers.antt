use Rattle.mc_linearizable.proofs.LinearLemmas.{pool_linearizable}
use Rattle.mc_linearizable.proofs.laws.pools_are_linearizable.Goals as goal

pub returns : goal.returns
returns c = pool_linearizable
