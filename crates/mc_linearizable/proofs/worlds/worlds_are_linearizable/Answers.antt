use Rattle.mc_linearizable.proofs.LinearLemmas.{world_accounted, world_linearizable}
use Rattle.mc_linearizable.proofs.worlds.worlds_are_linearizable.Goals as goal

pub returns-clause-linearizable : goal.returns-clause-linearizable
returns-clause-linearizable g c = world_linearizable c.args.world.now c.opens_well.ensures.ring c.opens_well.ensures.bounds c.gives_account.ensures

pub returns-clause-accounted : goal.returns-clause-accounted
returns-clause-accounted g c = world_accounted c.args.world.now c.opens_well.ensures.ring c.opens_well.ensures.bounds c.gives_account.ensures
