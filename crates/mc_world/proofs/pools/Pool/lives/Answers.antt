use Rattle.std.proofs.Common.{rules, ◌≡◌, ◌∙◌, true, List, Some, None, slice_get, refl, sym, ap}
use Rattle.std.proofs.lemmas.Option.{slice_get_read}
use Rattle.mc_proxy.specs.SessionState.{link_at}
use Rattle.mc_world.specs.WorldState.{SiteState, WayState, proxy_in}
use Rattle.std.proofs.lemmas.Option.{slice_get_past}
use Rattle.mc_world.proofs.PoolEvents.AppliesLemmas.{lives_by, lives_nowhere, pool_of}
use Rattle.mc_world.proofs.pools.Pool.lives.Goals as goal

pub returns-in-Some : goal.returns-in-Some
returns-in-Some g c =
    let at : slice_get c.self.inside.sites.items c.args.place ≡ Some c.in-Some.site.now =
    ap (λ (ss : List SiteState). slice_get ss c.args.place) (sym c.deref.ensures.value)
    ∙ slice_get_read c.deref.result.now _ c.args.place c.in-Some.site.now refl c.in-Some.ensures.lookup.3.0 c.in-Some.ensures.lookup.1 in
    let up : (link_at (proxy_in c.self.inside.proxies c.args.proxy).links c.args.place).up ≡ true = search rules in
    rw (← c.self.view_is) (lives_by c.args.proxy c.args.place c.args.generation c.way.result.generation (pool_of c.self.inside.homes.items c.self.inside.proxies c.self.inside.sites.items) c.in-Some.site.now at up (ap (λ
    (w : WayState). w.generation) c.way.ensures))

pub returns-in-None : goal.returns-in-None
returns-in-None g c =
    let none : slice_get c.self.inside.sites.items c.args.place ≡ None =
    ap (λ (ss : List SiteState). slice_get ss c.args.place) (sym c.deref.ensures.value) ∙ slice_get_past c.deref.result.now c.args.place c.in-None.ensures.lookup.3 in
    rw (← c.self.view_is) (lives_nowhere c.args.proxy c.args.place c.args.generation (pool_of c.self.inside.homes.items c.self.inside.proxies c.self.inside.sites.items) none)
