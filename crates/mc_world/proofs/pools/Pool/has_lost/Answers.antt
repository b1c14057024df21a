use Rattle.std.proofs.Common.{◌≡◌, ◌∙◌, List, Some, None, slice_get, refl, sym, ap}
use Rattle.std.proofs.lemmas.Option.{slice_get_past, slice_get_read}
use Rattle.mc_world.specs.WorldState.{SiteState}
use Rattle.mc_world.proofs.PoolEvents.AppliesLemmas.{pool_of}
use Rattle.mc_world.proofs.PoolEvents.ApplyingLemmas.{lost_if, lost_nowhere, never}
use Rattle.mc_world.proofs.pools.Pool.has_lost.Goals as goal

pub returns-in-Some : goal.returns-in-Some
returns-in-Some g c =
    let at : slice_get c.self.inside.sites.items c.args.place ≡ Some c.in-Some.site.now =
    ap (λ (ss : List SiteState). slice_get ss c.args.place) (sym c.deref.ensures.value)
    ∙ slice_get_read c.deref.result.now _ c.args.place c.in-Some.site.now refl c.in-Some.ensures.lookup.3.0 c.in-Some.ensures.lookup.1 in
    rw (← c.self.view_is, c.is_some.ensures) (lost_if c.args.proxy c.args.place c.args.generation
    (pool_of c.self.inside.homes.items c.self.inside.proxies c.self.inside.sites.items) c.in-Some.site.now at c.lost_way.result c.lost_way.ensures)

pub returns-in-None : goal.returns-in-None
returns-in-None g c =
    let none : slice_get c.self.inside.sites.items c.args.place ≡ None =
    ap (λ (ss : List SiteState). slice_get ss c.args.place) (sym c.deref.ensures.value) ∙ slice_get_past c.deref.result.now c.args.place c.in-None.ensures.lookup.3 in
    rw (← c.self.view_is) (never _ (lost_nowhere c.args.proxy c.args.place c.args.generation (pool_of c.self.inside.homes.items c.self.inside.proxies c.self.inside.sites.items) none))
