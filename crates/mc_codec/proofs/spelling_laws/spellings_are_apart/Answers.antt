use Rattle.mc_codec.proofs.SpelledTextLemmas.{apart}
use Rattle.mc_codec.proofs.spelling_laws.spellings_are_apart.Goals as goal

pub returns : goal.returns
returns c = apart
