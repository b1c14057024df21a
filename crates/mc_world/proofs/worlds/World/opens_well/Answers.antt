use Rattle.mc_world.proofs.worlds.World.opens_well.Goals as goal

pub returns-clause-ring : goal.returns-clause-ring
returns-clause-ring g c = rw (← c.self.view_is) c.servers.ensures.ring

pub returns-clause-bounds : goal.returns-clause-bounds
returns-clause-bounds g c = rw (← c.self.view_is) c.self.invariant.bounds
