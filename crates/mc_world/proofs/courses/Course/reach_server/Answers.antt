use Rattle.std.proofs.Common.{inr, ap}
use Rattle.mc_world.specs.Applies.{Lives}
use Rattle.mc_world.specs.WorldState.{PoolState}
use Rattle.mc_world.proofs.SiteEvents.WayLemmas.{applies_as, by_late, course_of, living_bytes, lost_bytes, told_as}
use Rattle.mc_world.proofs.courses.Course.reach_server.Goals as goal

-- bytes of the living generation
pub returns-then-lives-clause-happens : goal.returns-then-lives-clause-happens
returns-then-lives-clause-happens g c =
    let lives : Lives c.args.proxy c.args.server c.args.generation c.self.inside.pool = c.lives.ensures.0 c.if-lives.true in
    rw (← c.self.view_is) (told_as c.reach_server.result _ _ _ _
    (λ h. living_bytes c.args.proxy c.args.server c.args.generation c.args.count c.self.inside.clients.items c.self.inside.log.items c.self.inside.pool c.reach_server.new.self lives h)
    (λ same. ap (λ (p : PoolState). course_of p c.self.inside.clients.items c.self.inside.log.items) same)
    c.reach_server.ensures.reaches)

-- bytes of a lost generation
pub returns-clause-happens : goal.returns-clause-happens
returns-clause-happens g c =
    let dead : Lives c.args.proxy c.args.server c.args.generation c.self.inside.pool → ⊥ = λ lives. let yes = c.lives.ensures.1 lives in let no = c.if-lives.false in absurd cc in
    rw (← c.self.view_is) (told_as c.late_bytes.result _ _ _ _
    (λ h. lost_bytes c.args.proxy c.args.server c.args.generation c.args.count c.self.inside.clients.items c.self.inside.log.items c.self.inside.pool c.late_bytes.new.self dead h)
    (λ same. ap (λ (p : PoolState). course_of p c.self.inside.clients.items c.self.inside.log.items) same)
    c.late_bytes.ensures.reaches)

pub returns-clause-applies : goal.returns-clause-applies
returns-clause-applies g c =
    let dead : Lives c.args.proxy c.args.server c.args.generation c.self.inside.pool → ⊥ = λ lives. let yes = c.lives.ensures.1 lives in let no = c.if-lives.false in absurd cc in
    rw (← c.self.view_is) (applies_as c.late_bytes.result _ _
    (λ can. inr (dead, can))
    (λ way. by_late c.args.proxy c.args.server c.args.generation c.self.inside.pool _ _ dead way)
    c.late_bytes.ensures.applies)
