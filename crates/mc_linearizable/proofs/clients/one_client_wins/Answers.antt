use Rattle.mc_linearizable.proofs.WinLemmas.{one_client_wins}
use Rattle.mc_linearizable.proofs.clients.one_client_wins.Goals as goal

pub returns : goal.returns
returns c = one_client_wins
