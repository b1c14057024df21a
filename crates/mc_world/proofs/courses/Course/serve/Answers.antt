use Rattle.std.proofs.Common.{◌<◌, ◌^◌, inr, ap, arith}
use Rattle.mc_world.specs.Applies.{Lives}
use Rattle.mc_world.specs.WorldState.{PoolState}
use Rattle.mc_world.proofs.SiteEvents.WayLemmas.{applies_as, by_late, course_of, living_turn, lost_turn, told_as}
use Rattle.mc_world.proofs.courses.Course.serve.Goals as goal

-- a request of the living generation
pub returns-then-lives-clause-happens : goal.returns-then-lives-clause-happens
returns-then-lives-clause-happens g c =
    let lives : Lives c.args.proxy c.args.server c.args.generation c.self.inside.pool = c.lives.ensures.0 c.if-lives.true in
    let late = c.if-moment.false in
    let fits : c.args.moment < 2 ^ 63 = omega (arith, late) in
    rw (← c.self.view_is) (told_as c.server_turn.result _ _ _ _
    (λ h. living_turn c.args.proxy c.args.server c.args.generation c.args.moment c.self.inside.clients.items c.self.inside.log.items c.self.inside.pool c.server_turn.new.self fits lives h)
    (λ same. ap (λ (p : PoolState). course_of p c.self.inside.clients.items c.self.inside.log.items) same)
    c.server_turn.ensures.takes)

-- a request of a lost generation
pub returns-clause-happens : goal.returns-clause-happens
returns-clause-happens g c =
    let dead : Lives c.args.proxy c.args.server c.args.generation c.self.inside.pool → ⊥ = λ lives. let yes = c.lives.ensures.1 lives in let no = c.if-lives.false in absurd cc in
    let late = c.if-moment.false in
    let fits : c.args.moment < 2 ^ 63 = omega (arith, late) in
    rw (← c.self.view_is) (told_as c.late_turn.result _ _ _ _
    (λ h. lost_turn c.args.proxy c.args.server c.args.generation c.args.moment c.self.inside.clients.items c.self.inside.log.items c.self.inside.pool c.late_turn.new.self fits dead h)
    (λ same. ap (λ (p : PoolState). course_of p c.self.inside.clients.items c.self.inside.log.items) same)
    c.late_turn.ensures.takes)

pub returns-clause-applies : goal.returns-clause-applies
returns-clause-applies g c =
    let dead : Lives c.args.proxy c.args.server c.args.generation c.self.inside.pool → ⊥ = λ lives. let yes = c.lives.ensures.1 lives in let no = c.if-lives.false in absurd cc in
    let late = c.if-moment.false in
    let fits : c.args.moment < 2 ^ 63 = omega (arith, late) in
    rw (← c.self.view_is) (applies_as c.late_turn.result _ _
    (λ can. (fits, inr (dead, can)))
    (λ way. by_late c.args.proxy c.args.server c.args.generation c.self.inside.pool _ _ dead way.1)
    c.late_turn.ensures.applies)
