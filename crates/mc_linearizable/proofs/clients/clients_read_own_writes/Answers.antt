use Rattle.mc_linearizable.proofs.ClientLemmas.{read_own_writes}
use Rattle.mc_linearizable.proofs.clients.clients_read_own_writes.Goals as goal

pub returns : goal.returns
returns c = read_own_writes
