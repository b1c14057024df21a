use Rattle.std.proofs.Common.{refl, sym, subst}
use Rattle.mc_world.specs.CourseHolds.{WorldHolds}
use Rattle.mc_world.specs.Worlds.{WorldState}
use Rattle.mc_world.proofs.Course.OpeningLemmas.{opened_world, world_of}
use Rattle.mc_world.proofs.Course.StepLemmas.{world_accounts, world_opens}
use Rattle.mc_world.proofs.worlds.World.with_proxies.Goals as goal

pub invariant_of-result : goal.invariant_of-result
invariant_of-result g c =
    let opened = opened_world c.args.losses c.args.ring c.args.ring c.args.clients.now c.args.budget c.args.items c.in_ok-course.course c.in_ok-course.ensures.opened refl in
    subst (λ (w : WorldState). WorldHolds w) (sym opened)
    (world_opens c.args.losses c.args.ring c.args.clients.now c.args.budget c.args.items c.servers.ensures.ring (c.is_within_bounds.ensures.0 c.if-not-is_within_bounds.false))

pub returns-clause-opened : goal.returns-clause-opened
returns-clause-opened g c =
    opened_world c.args.losses c.args.ring c.args.ring c.args.clients.now c.args.budget c.args.items c.in_ok-course.course c.in_ok-course.ensures.opened refl

pub returns-clause-account : goal.returns-clause-account
returns-clause-account g c =
    let opened = opened_world c.args.losses c.args.ring c.args.ring c.args.clients.now c.args.budget c.args.items c.in_ok-course.course c.in_ok-course.ensures.opened refl in
    world_accounts (world_of c.in_ok-course.course c.args.losses c.args.ring c.args.budget c.args.items) (subst (λ (w : WorldState). WorldHolds w) (sym opened)
    (world_opens c.args.losses c.args.ring c.args.clients.now c.args.budget c.args.items c.servers.ensures.ring (c.is_within_bounds.ensures.0 c.if-not-is_within_bounds.false)))
