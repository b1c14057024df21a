use Rattle.mc_codec.proofs.HeadLemmas.{not_nothing}
use Rattle.mc_codec.proofs.laws.spellings_are_not_empty.Goals as goal

pub returns : goal.returns
returns c = not_nothing
