use Rattle.mc_world.proofs.Course.WorldOpeningLemmas.{opening_pool_holds}
use Rattle.mc_world.proofs.world_laws.opening_pools_hold.Goals as goal

pub returns : goal.returns
returns c = opening_pool_holds
