use Rattle.mc_pool_laws.proofs.OneMapLemmas.{map_by_order, map_by_texts}
use Rattle.mc_pool_laws.proofs.one_map.accounts_are_of_one_map.Goals as goal

pub returns-clause-by_texts : goal.returns-clause-by_texts
returns-clause-by_texts c home losses ring budget items texts outs histories log bounds account =
    map_by_texts home losses ring budget items account.0 texts outs histories log bounds account.1

pub returns-clause-by_order : goal.returns-clause-by_order
returns-clause-by_order c = map_by_order
