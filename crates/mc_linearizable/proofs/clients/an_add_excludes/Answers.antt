use Rattle.mc_linearizable.proofs.AddLemmas.{add_excludes}
use Rattle.mc_linearizable.proofs.clients.an_add_excludes.Goals as goal

pub returns : goal.returns
returns c = add_excludes
