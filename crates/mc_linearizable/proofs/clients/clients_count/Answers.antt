use Rattle.mc_linearizable.proofs.CounterLemmas.{clients_count}
use Rattle.mc_linearizable.proofs.clients.clients_count.Goals as goal

pub returns : goal.returns
returns c = clients_count
