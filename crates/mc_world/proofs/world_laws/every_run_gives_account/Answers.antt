use Rattle.mc_world.proofs.Course.RunLemmas.{calls_account}
use Rattle.mc_world.proofs.world_laws.every_run_gives_account.Goals as goal

pub returns : goal.returns
returns c = calls_account
