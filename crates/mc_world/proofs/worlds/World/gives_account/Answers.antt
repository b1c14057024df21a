use Rattle.mc_world.proofs.Course.OpeningLemmas.{world_of}
use Rattle.mc_world.proofs.Course.StepLemmas.{world_accounts}
use Rattle.mc_world.proofs.worlds.World.gives_account.Goals as goal

pub returns : goal.returns
returns g c =
    rw (← c.self.view_is) (world_accounts (world_of c.self.inside.course c.self.inside.losses c.self.inside.opening c.self.inside.budget c.self.inside.items) c.self.invariant)
