use Rattle.mc_server.proofs.RefusalLemmas.{refusal_is_told, granted_is_legal}
use Rattle.mc_server.proofs.laws.refusals_are_told.Goals as goal

pub returns-clause-told : goal.returns-clause-told
returns-clause-told c = refusal_is_told

pub returns-clause-granted : goal.returns-clause-granted
returns-clause-granted c = granted_is_legal
