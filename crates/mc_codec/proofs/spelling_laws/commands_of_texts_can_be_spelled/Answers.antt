use Rattle.mc_codec.proofs.SayLemmas.{requests_can_be_spelled}
use Rattle.mc_codec.proofs.spelling_laws.commands_of_texts_can_be_spelled.Goals as goal

pub returns : goal.returns
returns c = requests_can_be_spelled
