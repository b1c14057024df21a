use Rattle.std.proofs.Common.{rules, ◌≡◌}
use Rattle.mc_cache.specs.CacheState.{opening_cache}
use Rattle.mc_world.proofs.Log.PolicyLemmas.{choice_kept, restarted_losses}
use Rattle.mc_world.proofs.Course.StepLemmas.{course_restarted, course_serves, world_accounts}
use Rattle.mc_world.proofs.worlds.World.restart_server.Goals as goal

-- a course that holds serves
pub restart-requires-clause-serves : goal.restart-requires-clause-serves
restart-requires-clause-serves g c = course_serves c.self.inside.opening (opening_cache c.self.inside.budget c.self.inside.items 0) c.self.inside.course c.self.invariant.course

-- the course holds after the restart
pub invariant_of-self : goal.invariant_of-self
invariant_of-self g c =
    let opens : c.fresh_server-fresh.result.cache ≡ opening_cache c.self.inside.budget c.self.inside.items 0 = search rules in
    record {
      bounds = c.self.invariant.bounds;
      losses = choice_kept c.self.inside.losses c.self.inside.course.pool c.restart.new.self.pool
          (restarted_losses c.args.server c.fresh_server-fresh.result.cache c.restart.result c.self.inside.course c.restart.new.self c.restart.ensures.restarted c.restart.ensures.err)
          c.self.invariant.losses;
      course = course_restarted c.self.inside.opening c.self.inside.budget c.self.inside.items c.args.server c.fresh_server-fresh.result.cache c.restart.result c.self.inside.course c.restart.new.self
          c.self.invariant.bounds opens c.self.invariant.course c.restart.ensures.restarted c.restart.ensures.err;
    }

pub returns-clause-account : goal.returns-clause-account
returns-clause-account g c =
    let opens : c.fresh_server-fresh.result.cache ≡ opening_cache c.self.inside.budget c.self.inside.items 0 = search rules in
    world_accounts (record { course = c.restart.new.self; losses = c.self.inside.losses; opening = c.self.inside.opening; budget = c.self.inside.budget; items = c.self.inside.items }) (record {
      bounds = c.self.invariant.bounds;
      losses = choice_kept c.self.inside.losses c.self.inside.course.pool c.restart.new.self.pool
          (restarted_losses c.args.server c.fresh_server-fresh.result.cache c.restart.result c.self.inside.course c.restart.new.self c.restart.ensures.restarted c.restart.ensures.err)
          c.self.invariant.losses;
      course = course_restarted c.self.inside.opening c.self.inside.budget c.self.inside.items c.args.server c.fresh_server-fresh.result.cache c.restart.result c.self.inside.course c.restart.new.self
          c.self.invariant.bounds opens c.self.invariant.course c.restart.ensures.restarted c.restart.ensures.err;
    })
