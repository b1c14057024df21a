use Rattle.mc_pool_laws.proofs.DrainedLemmas.{drain_adds}
use Rattle.mc_pool_laws.proofs.drains.drains_add_what_is_left.Goals as goal

pub returns : goal.returns
returns c = drain_adds
