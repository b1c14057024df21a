use Rattle.mc_linearizable.proofs.ClientLemmas.{lose_no_cas}
use Rattle.mc_linearizable.proofs.clients.clients_lose_no_cas.Goals as goal

pub returns : goal.returns
returns c = lose_no_cas
