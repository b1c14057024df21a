use Rattle.mc_net.proofs.SettledLemmas.{opening_settled}
use Rattle.mc_net.proofs.stranger_laws.openings_are_settled.Goals as goal

pub returns : goal.returns
returns c = λ bytes enough. opening_settled bytes enough
