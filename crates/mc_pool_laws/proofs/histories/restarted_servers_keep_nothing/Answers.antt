use Rattle.mc_pool_laws.proofs.RestartExample.{stored_and_missed}
use Rattle.mc_pool_laws.proofs.histories.restarted_servers_keep_nothing.Goals as goal

pub returns : goal.returns
returns c = stored_and_missed
