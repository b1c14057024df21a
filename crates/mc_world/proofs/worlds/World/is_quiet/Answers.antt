use Rattle.std.proofs.Common.{rules, ◌<◌, ◌^◌, length, subst}
use Rattle.mc_world.specs.CourseHolds.{WorldHolds}
use Rattle.mc_world.specs.Worlds.{WorldState, cache_of}
use Rattle.mc_world.proofs.Drain.RestLemmas.{rested_quiet}
use Rattle.mc_world.proofs.worlds.World.is_quiet.Goals as goal

pub returns : goal.returns
returns g c =
    let short : length c.self.inside.course.log < 2 ^ 64 = search rules in
    rested_quiet c.args.self.now.opening (cache_of c.args.self.now) c.args.moment c.args.self.now.course c.requires.moment
    (subst (λ (w : WorldState). length w.course.log < 2 ^ 64) c.self.view_is short) (subst (λ (w : WorldState). WorldHolds w) c.self.view_is c.self.invariant).course c.requires.rested
