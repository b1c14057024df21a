use Rattle.mc_cache.specs.CacheState.{opening_cache}
use Rattle.mc_world.proofs.Log.PolicyLemmas.{choice_kept, learned_losses}
use Rattle.mc_world.proofs.Course.StepLemmas.{course_learned, world_accounts}
use Rattle.mc_world.proofs.worlds.World.learn_server.Goals as goal

-- the course holds once the server is learned
pub invariant_of-self : goal.invariant_of-self
invariant_of-self g c = record {
  bounds = c.self.invariant.bounds;
  losses = choice_kept c.self.inside.losses c.self.inside.course.pool c.learn.new.self.pool
      (learned_losses c.args.proxy c.args.address c.learn.result c.self.inside.course c.learn.new.self c.learn.ensures.learned c.learn.ensures.err) c.self.invariant.losses;
  course = course_learned c.self.inside.opening (opening_cache c.self.inside.budget c.self.inside.items 0) c.args.proxy c.args.address c.learn.result c.self.inside.course c.learn.new.self
      c.self.invariant.course c.learn.ensures.learned c.learn.ensures.err;
}

pub returns-clause-account : goal.returns-clause-account
returns-clause-account g c =
    world_accounts (record { course = c.learn.new.self; losses = c.self.inside.losses; opening = c.self.inside.opening; budget = c.self.inside.budget; items = c.self.inside.items }) (record {
      bounds = c.self.invariant.bounds;
      losses = choice_kept c.self.inside.losses c.self.inside.course.pool c.learn.new.self.pool
          (learned_losses c.args.proxy c.args.address c.learn.result c.self.inside.course c.learn.new.self c.learn.ensures.learned c.learn.ensures.err) c.self.invariant.losses;
      course = course_learned c.self.inside.opening (opening_cache c.self.inside.budget c.self.inside.items 0) c.args.proxy c.args.address c.learn.result c.self.inside.course c.learn.new.self
          c.self.invariant.course c.learn.ensures.learned c.learn.ensures.err;
    })
