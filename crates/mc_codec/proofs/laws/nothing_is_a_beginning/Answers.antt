use Rattle.mc_codec.proofs.HeadLemmas.{get_begins, update_begins, meta_begins, atom_begins}
use Rattle.mc_codec.proofs.laws.nothing_is_a_beginning.Goals as goal

pub returns-clause-get : goal.returns-clause-get
returns-clause-get c = get_begins

pub returns-clause-update : goal.returns-clause-update
returns-clause-update c = update_begins

pub returns-clause-meta : goal.returns-clause-meta
returns-clause-meta c = meta_begins

pub returns-clause-atom : goal.returns-clause-atom
returns-clause-atom c = atom_begins
