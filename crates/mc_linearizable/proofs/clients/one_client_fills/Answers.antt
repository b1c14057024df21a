use Rattle.mc_linearizable.proofs.FillLemmas.{one_client_fills}
use Rattle.mc_linearizable.proofs.clients.one_client_fills.Goals as goal

pub returns : goal.returns
returns c = one_client_fills
