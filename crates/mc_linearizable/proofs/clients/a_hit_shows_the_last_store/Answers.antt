use Rattle.mc_linearizable.proofs.ShownLemmas.{hit_shows}
use Rattle.mc_linearizable.proofs.clients.a_hit_shows_the_last_store.Goals as goal

pub returns : goal.returns
returns c = hit_shows
