use Rattle.std.proofs.Common.{◌≡◌, ◌∙◌, List, ℕ, ap, refl, subst}
use Rattle.mc_world.specs.Acts.{event_of}
use Rattle.mc_world.specs.CourseHolds.{WorldHolds}
use Rattle.mc_world.specs.Steps.{StepsTo}
use Rattle.mc_world.specs.WorldState.{PoolState}
use Rattle.mc_world.specs.Worlds.{WorldState}
use Rattle.mc_world.specs.declared.errors.Step.TheVariants.{Done}
use Rattle.mc_world.specs.declared.worlds.World.TheInside.{Inside}
use Rattle.mc_world.specs.declared.events.Event.{Event}
use Rattle.mc_world.proofs.Drain.DrainLemmas.{act_done}
use Rattle.mc_world.proofs.worlds.World.act.Goals as goal

-- what was done leaves less to do
pub returns-in-Done-clause-over : goal.returns-in-Done-clause-over
returns-in-Done-clause-over g c =
    let steps : StepsTo c.event_of-event.result Done c.args.self.now.course c.step.new.self.course = rw c.in-Done.is at c.in_ok-step.ensures.steps in
    let pool = ap (λ (w : Inside g.row.S.Denot). w.course.pool) c.self-inside.view_is ∙ ap (λ (w : WorldState). w.course.pool) c.self.view_is in
    let event : c.event_of-event.result ≡ event_of c.args.act c.args.moment c.args.self.now.course.pool =
    subst (λ (p : PoolState). c.event_of-event.result ≡ event_of c.args.act c.args.moment p) pool c.event_of-event.ensures in
    act_done c.args.act c.args.moment c.args.self.now c.step.new.self
    (subst (λ (w : WorldState). WorldHolds w) c.self.view_is c.self.invariant)
    (subst (λ (e : Event (List ℕ)). StepsTo e Done c.args.self.now.course c.step.new.self.course) event steps) c.step.ensures.opened

pub returns-in-Done-clause-acted : goal.returns-in-Done-clause-acted
returns-in-Done-clause-acted g c =
    let steps : StepsTo c.event_of-event.result Done c.args.self.now.course c.step.new.self.course = rw c.in-Done.is at c.in_ok-step.ensures.steps in
    let pool = ap (λ (w : Inside g.row.S.Denot). w.course.pool) c.self-inside.view_is ∙ ap (λ (w : WorldState). w.course.pool) c.self.view_is in
    let event : c.event_of-event.result ≡ event_of c.args.act c.args.moment c.args.self.now.course.pool =
    subst (λ (p : PoolState). c.event_of-event.result ≡ event_of c.args.act c.args.moment p) pool c.event_of-event.ensures in
    let told = subst (λ (e : Event (List ℕ)). StepsTo e Done c.args.self.now.course c.step.new.self.course) event steps in
    λ did. (told.applies.0 refl, told.does)
