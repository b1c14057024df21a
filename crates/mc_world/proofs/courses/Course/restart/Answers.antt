use Rattle.std.proofs.Common.{rules, ◌≡◌, List, length, refl, ap, arith}
use Rattle.mc_world.specs.WorldState.{SiteState}
use Rattle.mc_world.proofs.Course.CutLemmas.{died}
use Rattle.mc_world.proofs.PoolEvents.ApplyingLemmas.{refused_inside, refused_past}
use Rattle.mc_world.proofs.courses.Course.restart.Goals as goal

-- no server has this place
pub returns-then-place-sites-clause-refused : goal.returns-then-place-sites-clause-refused
returns-then-place-sites-clause-refused g c =
    let past = c.if-place-sites.true in
    let same : length c.sites.result.now ≡ length c.self.inside.pool.sites = ap (λ (ss : List SiteState). length ss) c.sites.ensures in
    rw (← c.self.view_is) (refused_past (length c.self.inside.pool.sites) c.args.place (omega (arith, past, same)))

-- a server has this place
pub returns-in_default-clause-refused : goal.returns-in_default-clause-refused
returns-in_default-clause-refused g c =
    let there = c.if-place-sites.false in
    let same : length c.sites.result.now ≡ length c.self.inside.pool.sites = ap (λ (ss : List SiteState). length ss) c.sites.ensures in
    rw (← c.self.view_is) (refused_inside (length c.self.inside.pool.sites) c.args.place (omega (arith, there, same)))

pub restart-requires-clause-inside : goal.restart-requires-clause-inside
restart-requires-clause-inside g c =
    let there = c.if-place-sites.false in
    let same : length c.sites.result.now ≡ length c.self.inside.pool.sites = ap (λ (ss : List SiteState). length ss) c.sites.ensures in
    omega (arith, there, same)

-- the links to it are lost first
pub returns-clause-restarted : goal.returns-clause-restarted
returns-clause-restarted g c =
    rw (← c.self.view_is) (died c.args.place c.args.server.cache c.self.inside.clients.items c.self.inside.clients.items c.self.inside.log.items _ c.self.inside.pool c.restart.new.self
    c.restart.ensures refl (search rules))

pub returns-clause-refused : goal.returns-clause-refused
returns-clause-refused g c =
    let there = c.if-place-sites.false in
    let same : length c.sites.result.now ≡ length c.self.inside.pool.sites = ap (λ (ss : List SiteState). length ss) c.sites.ensures in
    rw (← c.self.view_is) (refused_inside (length c.self.inside.pool.sites) c.args.place (omega (arith, there, same)))
