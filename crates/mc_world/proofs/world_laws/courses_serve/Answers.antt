use Rattle.mc_world.proofs.SiteEvents.ServingLemmas.{pool_serves}
use Rattle.mc_world.proofs.world_laws.courses_serve.Goals as goal

pub returns : goal.returns
returns c = pool_serves
