use Rattle.std.proofs.Common.{rules, ◌≡◌}
use Rattle.mc_cache.specs.CacheState.{opening_cache}
use Rattle.mc_world.proofs.Log.PolicyLemmas.{choice_kept, joined_losses}
use Rattle.mc_world.proofs.Course.StepLemmas.{course_joined, course_serves, world_accounts}
use Rattle.mc_world.proofs.worlds.World.join_server_at.Goals as goal

-- a course that holds serves
pub join-requires-clause-serves : goal.join-requires-clause-serves
join-requires-clause-serves g c = course_serves c.self.inside.opening (opening_cache c.self.inside.budget c.self.inside.items 0) c.self.inside.course c.self.invariant.course

-- the course holds after the join
pub invariant_of-self : goal.invariant_of-self
invariant_of-self g c =
    let opens : c.fresh_server-server.result.cache ≡ opening_cache c.self.inside.budget c.self.inside.items 0 = search rules in
    record {
      bounds = c.self.invariant.bounds;
      losses = choice_kept c.self.inside.losses c.self.inside.course.pool c.join.new.self.pool
          (joined_losses c.args.proxy c.args.address c.fresh_server-server.result.cache c.join.result c.self.inside.course c.join.new.self c.join.ensures.joined c.join.ensures.err)
          c.self.invariant.losses;
      course = course_joined c.self.inside.opening c.self.inside.budget c.self.inside.items c.args.proxy c.args.address c.fresh_server-server.result.cache c.join.result c.self.inside.course c.join.new.self
          c.self.invariant.bounds opens c.self.invariant.course c.join.ensures.joined c.join.ensures.err;
    }

pub returns-clause-account : goal.returns-clause-account
returns-clause-account g c =
    let opens : c.fresh_server-server.result.cache ≡ opening_cache c.self.inside.budget c.self.inside.items 0 = search rules in
    world_accounts (record { course = c.join.new.self; losses = c.self.inside.losses; opening = c.self.inside.opening; budget = c.self.inside.budget; items = c.self.inside.items }) (record {
      bounds = c.self.invariant.bounds;
      losses = choice_kept c.self.inside.losses c.self.inside.course.pool c.join.new.self.pool
          (joined_losses c.args.proxy c.args.address c.fresh_server-server.result.cache c.join.result c.self.inside.course c.join.new.self c.join.ensures.joined c.join.ensures.err)
          c.self.invariant.losses;
      course = course_joined c.self.inside.opening c.self.inside.budget c.self.inside.items c.args.proxy c.args.address c.fresh_server-server.result.cache c.join.result c.self.inside.course c.join.new.self
          c.self.invariant.bounds opens c.self.invariant.course c.join.ensures.joined c.join.ensures.err;
    })
