use Rattle.mc_net.proofs.SettledLemmas.{opening_stays}
use Rattle.mc_net.proofs.stranger_laws.what_is_settled_stays.Goals as goal

pub returns : goal.returns
returns c = λ bytes more known. opening_stays bytes more known
