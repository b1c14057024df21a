use Rattle.mc_world.proofs.worlds.World.holds.Goals as goal

pub returns : goal.returns
returns g c = rw (← c.self.view_is) c.self.invariant.course
