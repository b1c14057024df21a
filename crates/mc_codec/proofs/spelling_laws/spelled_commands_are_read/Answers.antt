use Rattle.mc_codec.proofs.SpelledTextLemmas.{first_spelled, requests-spelled}
use Rattle.mc_codec.proofs.spelling_laws.spelled_commands_are_read.Goals as goal

pub returns-clause-first : goal.returns-clause-first
returns-clause-first c = first_spelled

pub returns-clause-requests : goal.returns-clause-requests
returns-clause-requests c = requests-spelled
