use Rattle.std.proofs.Common.{rules, ◌≡◌, true, Some, slice_get, refl, arith}
use Rattle.std.proofs.lemmas.Option.{slice_get_read}
use Rattle.mc_proxy.specs.SessionState.{link_at}
use Rattle.mc_world.specs.WorldState.{proxy_in}
use Rattle.mc_world.proofs.pools.Pool.lose_link.Goals as goal

pub returns-clause-loses : goal.returns-clause-loses
returns-clause-loses g c =
    let inside = c.in-Some.ensures.variant.0 refl in
    let kept = c.self.inside.sites.ok in
    let at : slice_get c.self.inside.sites.items c.args.place ≡ Some c.in-Some.site.now = slice_get_read _ _ c.args.place c.in-Some.site.now refl (omega (arith, inside, kept)) (search rules) in
    let up : (link_at (proxy_in c.self.inside.proxies c.args.proxy).links c.args.place).up ≡ true = search rules in
    rw (← c.self.view_is) (record {
      there = record { site = c.in-Some.site.now; now = c.cut_off.new.self; at = at; up = up; sites = refl };
      cut = search rules;
      proxy = record { proxies = search rules; homes = refl };
    })
