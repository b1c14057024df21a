use Rattle.mc_pool_laws.proofs.OneMapLemmas.{one_map_of}
use Rattle.mc_pool_laws.proofs.one_map_worlds.worlds_act_as_one_map.Goals as goal

pub returns : goal.returns
returns g c = one_map_of c.args.world.now c.opens_well.ensures.bounds c.gives_account.ensures
