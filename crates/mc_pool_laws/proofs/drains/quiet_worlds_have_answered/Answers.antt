use Rattle.mc_pool_laws.proofs.DrainedLemmas.{all_answered}
use Rattle.mc_pool_laws.proofs.drains.quiet_worlds_have_answered.Goals as goal

pub returns : goal.returns
returns c = all_answered
