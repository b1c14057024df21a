use Rattle.mc_codec.proofs.CanonicalLemmas.{answer_of-spelled}
use Rattle.mc_codec.proofs.spelling_laws.canonical_answers.Goals as goal

pub returns : goal.returns
returns c = answer_of-spelled
