use Rattle.mc_codec.proofs.SpelledTextLemmas.{all_spelled, quit_after}
use Rattle.mc_codec.proofs.spelling_laws.quit_after_commands_is_read.Goals as goal

pub returns-clause-more : goal.returns-clause-more
returns-clause-more c = all_spelled

pub returns-clause-quit : goal.returns-clause-quit
returns-clause-quit c = quit_after
