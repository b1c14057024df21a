use Rattle.mc_pump.proofs.CountLemmas.{all_but_the_last}
use Rattle.mc_pump.proofs.laws.all_but_the_last_cost_less.Goals as goal

pub returns : goal.returns
returns c = all_but_the_last
