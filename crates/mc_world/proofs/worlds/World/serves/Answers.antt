use Rattle.mc_cache.specs.CacheState.{opening_cache}
use Rattle.mc_world.proofs.Course.StepLemmas.{course_serves}
use Rattle.mc_world.proofs.worlds.World.serves.Goals as goal

pub returns : goal.returns
returns g c =
    rw (← c.self.view_is) (course_serves c.self.inside.opening (opening_cache c.self.inside.budget c.self.inside.items 0) c.self.inside.course c.self.invariant.course)
