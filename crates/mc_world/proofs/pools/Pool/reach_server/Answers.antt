use Rattle.std.proofs.Common.{rules, ◌≡◌, true, Some, slice_get, refl, arith}
use Rattle.std.proofs.lemmas.Option.{slice_get_read}
use Rattle.mc_proxy.specs.SessionState.{link_at}
use Rattle.mc_world.specs.WorldState.{proxy_in}
use Rattle.mc_world.proofs.PoolEvents.AppliesLemmas.{reached_server}
use Rattle.mc_world.proofs.pools.Pool.reach_server.Goals as goal

pub returns-clause-reaches : goal.returns-clause-reaches
returns-clause-reaches g c =
    let inside = c.in-Some.ensures.variant.0 refl in
    let kept = c.self.inside.sites.ok in
    let at : slice_get c.self.inside.sites.items c.args.place ≡ Some c.in-Some.site.now = slice_get_read _ _ c.args.place c.in-Some.site.now refl (omega (arith, inside, kept)) (search rules) in
    let up : (link_at (proxy_in c.self.inside.proxies c.args.proxy).links c.args.place).up ≡ true = search rules in
    rw (← c.self.view_is) (reached_server c.args.proxy c.args.place c.args.count c.self.inside.homes.items c.self.inside.proxies c.link_taken_out.new.self c.self.inside.sites.items c.in-Some.site.now c.arrive.new.self at up
    (search rules) (search rules))
