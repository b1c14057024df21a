use Rattle.mc_world.proofs.Drain.QuietLemmas.{calls_quiet}
use Rattle.mc_world.proofs.world_laws.nothing_is_stuck.Goals as goal

pub returns : goal.returns
returns c = calls_quiet
