use Rattle.mc_cache.specs.CacheState.{opening_cache}
use Rattle.mc_world.specs.Steps.{StepsTo}
use Rattle.mc_world.proofs.Log.PolicyLemmas.{choice_kept, stepped_losses}
use Rattle.mc_world.proofs.Course.StepLemmas.{answer_mapped, course_serves, course_stepped, stepped, world_accounts}
use Rattle.mc_world.proofs.worlds.World.step.Goals as goal

-- a course that holds serves
pub step-requires : goal.step-requires
step-requires g c = record { serves = course_serves c.self.inside.opening (opening_cache c.self.inside.budget c.self.inside.items 0) c.self.inside.course c.self.invariant.course }

-- the course holds after the step
pub invariant_of-self : goal.invariant_of-self
invariant_of-self g c = record {
  bounds = c.self.invariant.bounds;
  losses = choice_kept c.self.inside.losses c.self.inside.course.pool c.step.new.self.pool
      (stepped_losses c.args.event.now c.step.result c.self.inside.course c.step.new.self c.step.ensures.done c.step.ensures.err) c.self.invariant.losses;
  course = course_stepped c.self.inside.opening (opening_cache c.self.inside.budget c.self.inside.items 0) c.args.event.now c.step.result c.self.inside.course c.step.new.self
      c.self.invariant.course c.step.ensures.done c.step.ensures.err;
}

pub returns-clause-steps : goal.returns-clause-steps
returns-clause-steps g c =
    let told = stepped c.args.event.now c.step.result c.self.inside.course c.step.new.self c.step.ensures.done c.step.ensures.applies in
    rw (← c.self.view_is) (answer_mapped (λ step. StepsTo c.args.event.now step c.self.inside.course c.step.new.self) _ c.step.result c.map_err.result
    c.map_err.ensures.cases c.map_err.ensures.variant told)

pub returns-clause-account : goal.returns-clause-account
returns-clause-account g c =
    world_accounts (record { course = c.step.new.self; losses = c.self.inside.losses; opening = c.self.inside.opening; budget = c.self.inside.budget; items = c.self.inside.items }) (record {
      bounds = c.self.invariant.bounds;
      losses = choice_kept c.self.inside.losses c.self.inside.course.pool c.step.new.self.pool
          (stepped_losses c.args.event.now c.step.result c.self.inside.course c.step.new.self c.step.ensures.done c.step.ensures.err) c.self.invariant.losses;
      course = course_stepped c.self.inside.opening (opening_cache c.self.inside.budget c.self.inside.items 0) c.args.event.now c.step.result c.self.inside.course c.step.new.self
          c.self.invariant.course c.step.ensures.done c.step.ensures.err;
    })
