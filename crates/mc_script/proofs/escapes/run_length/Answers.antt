use Rattle.std.proofs.Common.{◌∙◌}
use Rattle.mc_script.proofs.EscapeLemmas.{run_end}
use Rattle.mc_script.proofs.escapes.run_length.Goals as goal

pub returns : goal.returns
returns c = c.unwrap_or.ensures ∙ run_end c.args.text.now c.memchr.result c.memchr.ensures
