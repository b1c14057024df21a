use Rattle.mc_script.proofs.EscapeLemmas.{text_of-escaped}
use Rattle.mc_script.proofs.escapes.escaped_is_read_again.Goals as goal

pub returns : goal.returns
returns c = text_of-escaped
