use Rattle.mc_linearizable.proofs.LinearLemmas.{unjoined_in_time}
use Rattle.mc_linearizable.proofs.laws.unjoined_pools_keep_to_real_time.Goals as goal

pub returns : goal.returns
returns c = unjoined_in_time
