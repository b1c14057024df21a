use Rattle.mc_history.proofs.GenerationLemmas.{carried}
use Rattle.mc_history.proofs.laws.generations_carry.Goals as goal

pub returns : goal.returns
returns c = carried
