use Rattle.mc_account.proofs.HoldsLemmas.{holds-idle_emit, holds-idle_turn}
use Rattle.mc_account.proofs.laws.idle_calls_hold.Goals as goal

pub returns-clause-turn : goal.returns-clause-turn
returns-clause-turn c = holds-idle_turn

pub returns-clause-emit : goal.returns-clause-emit
returns-clause-emit c = holds-idle_emit
