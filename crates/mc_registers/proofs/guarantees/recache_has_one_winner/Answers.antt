use Rattle.mc_registers.proofs.RecacheLemmas.{one_winner, each_win_is_marked}
use Rattle.mc_registers.proofs.guarantees.recache_has_one_winner.Goals as goal

pub returns-clause-one : goal.returns-clause-one
returns-clause-one c = one_winner

pub returns-clause-marked : goal.returns-clause-marked
returns-clause-marked c = each_win_is_marked
