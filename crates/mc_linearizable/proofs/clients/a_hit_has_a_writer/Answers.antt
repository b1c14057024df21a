use Rattle.mc_linearizable.proofs.ShownLemmas.{hit_has_store}
use Rattle.mc_linearizable.proofs.clients.a_hit_has_a_writer.Goals as goal

pub returns : goal.returns
returns c = hit_has_store
