use Rattle.mc_cache_laws.specs.Pools.{opening_caches, empty_map}
use Rattle.mc_cache_laws.proofs.OneMapLemmas.{act_as_map, opening_are_map, opening_are_unflushed}
use Rattle.mc_cache_laws.proofs.one_map.pools_act_as_one_map.Goals as goal

pub returns-clause-act : goal.returns-clause-act
returns-clause-act c = act_as_map

pub returns-clause-opening : goal.returns-clause-opening
returns-clause-opening c owner budget limit counter bounds es plain =
    act_as_map owner empty_map (opening_caches budget limit counter) es (opening_are_map owner budget limit counter) (opening_are_unflushed budget limit counter bounds) plain
