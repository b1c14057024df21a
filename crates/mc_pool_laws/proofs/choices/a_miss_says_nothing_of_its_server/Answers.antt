use Rattle.mc_pool_laws.proofs.MissExample.{missed_and_found}
use Rattle.mc_pool_laws.proofs.choices.a_miss_says_nothing_of_its_server.Goals as goal

pub returns : goal.returns
returns c = missed_and_found
