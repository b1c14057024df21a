use Rattle.mc_net.proofs.SettledLemmas.{small_is_text}
use Rattle.mc_net.proofs.stranger_laws.small_letters_are_text.Goals as goal

pub returns : goal.returns
returns c = λ byte rest least most. small_is_text byte rest least most
