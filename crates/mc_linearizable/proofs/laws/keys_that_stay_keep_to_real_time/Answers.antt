use Rattle.mc_linearizable.proofs.LinearLemmas.{stays_in_time}
use Rattle.mc_linearizable.proofs.laws.keys_that_stay_keep_to_real_time.Goals as goal

pub returns : goal.returns
returns c = stays_in_time
