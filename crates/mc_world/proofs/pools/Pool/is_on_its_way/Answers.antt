use Rattle.std.proofs.Common.{rules, ◌≡◌, ◌∙◌, ◌<◌, false, List, Some, None, length, slice_get, refl, sym, ap, subst}
use Rattle.std.specs.Prelude.{◌↔◌, IsTrue, not}
use Rattle.std.proofs.lemmas.Option.{slice_get_past, slice_get_read}
use Rattle.mc_world.specs.Applies.{CanReachLate, Lives, lost_way}
use Rattle.mc_world.specs.WorldState.{SiteState, StaleState}
use Rattle.mc_world.proofs.PoolEvents.AppliesLemmas.{found_way, pool_of}
use Rattle.mc_world.proofs.PoolEvents.ApplyingLemmas.{by_late, by_nowhere, lost_no_way, never, not_so, reaches_lost, some_if}
use Rattle.mc_world.proofs.pools.Pool.is_on_its_way.Goals as goal

-- no server has this place
pub returns-in_default : goal.returns-in_default
returns-in_default g c =
    let none : slice_get c.self.inside.sites.items c.args.place ≡ None =
    ap (λ (ss : List SiteState). slice_get ss c.args.place) (sym c.deref.ensures.value) ∙ slice_get_past c.deref.result.now c.args.place c.in_default.ensures.lookup.3 in
    let pool = pool_of c.self.inside.homes.items c.self.inside.proxies c.self.inside.sites.items in
    rw (← c.self.view_is) (λ count asked. never _ (by_nowhere c.args.proxy c.args.place c.args.generation pool _ _ none (λ (late : CanReachLate c.args.proxy c.args.place c.args.generation count pool). late.there)))

-- it was lost, and its server has not seen the end
pub returns-in-Some-lost_way : goal.returns-in-Some-lost_way
returns-in-Some-lost_way g c =
    let at : slice_get c.self.inside.sites.items c.args.place ≡ Some c.in-Some.site.now =
    ap (λ (ss : List SiteState). slice_get ss c.args.place) (sym c.deref.ensures.value)
    ∙ slice_get_read c.deref.result.now _ c.args.place c.in-Some.site.now refl c.in-Some.ensures.lookup.3.0 c.in-Some.ensures.lookup.1 in
    let pool = pool_of c.self.inside.homes.items c.self.inside.proxies c.self.inside.sites.items in
    let never_lives : Lives c.args.proxy c.args.place c.args.generation pool → ⊥ =
    rw (← c.self.view_is) at (not_so {P = Lives c.args.proxy c.args.place c.args.generation c.args.self.now} c.lives.result c.if-lives.false c.lives.ensures.1) in
    let found : Some c.in-Some-lost_way.i ≡ lost_way c.args.proxy c.args.generation c.in-Some.site.now.lost = sym c.in-Some-lost_way.is ∙ c.lost_way.ensures in
    let inside = (found_way c.args.proxy c.args.generation c.in-Some.site.now.lost c.in-Some-lost_way.i (sym found)).inside in
    let lost : c.lost.result.now ≡ c.in-Some.site.now.lost = c.lost.ensures in
    let way_at : slice_get c.in-Some.site.now.lost c.in-Some-lost_way.i ≡ Some c.index-lost-i.result =
    ap (λ (ways : List StaleState). slice_get ways c.in-Some-lost_way.i) (sym lost)
    ∙ slice_get_read c.lost.result.now _ c.in-Some-lost_way.i c.index-lost-i.result refl (subst (λ (ways : List StaleState). c.in-Some-lost_way.i < length ways) (sym lost) inside) (search rules) in
    let some : IsTrue (not c.is_empty-in-Some-lost_way.result) ↔ (0 < length c.index-lost-i.result.going) =
    rw c.going.ensures at (some_if c.is_empty-in-Some-lost_way.result (length c.going.result.now) c.is_empty-in-Some-lost_way.ensures) in
    rw (← c.self.view_is) (λ count asked. by_late c.args.proxy c.args.place c.args.generation pool _ _ (not c.is_empty-in-Some-lost_way.result) never_lives
    (reaches_lost c.args.proxy c.args.place c.args.generation c.in-Some-lost_way.i count pool c.in-Some.site.now c.index-lost-i.result at found way_at asked (not c.is_empty-in-Some-lost_way.result) some))

-- the server has no such generation
pub returns-in-None : goal.returns-in-None
returns-in-None g c =
    let at : slice_get c.self.inside.sites.items c.args.place ≡ Some c.in-Some.site.now =
    ap (λ (ss : List SiteState). slice_get ss c.args.place) (sym c.deref.ensures.value)
    ∙ slice_get_read c.deref.result.now _ c.args.place c.in-Some.site.now refl c.in-Some.ensures.lookup.3.0 c.in-Some.ensures.lookup.1 in
    let pool = pool_of c.self.inside.homes.items c.self.inside.proxies c.self.inside.sites.items in
    let never_lives : Lives c.args.proxy c.args.place c.args.generation pool → ⊥ =
    rw (← c.self.view_is) at (not_so {P = Lives c.args.proxy c.args.place c.args.generation c.args.self.now} c.lives.result c.if-lives.false c.lives.ensures.1) in
    let none : None ≡ lost_way c.args.proxy c.args.generation c.in-Some.site.now.lost = sym c.in-None.is ∙ c.lost_way.ensures in
    rw (← c.self.view_is) (λ count asked. by_late c.args.proxy c.args.place c.args.generation pool _ _ false never_lives (never _ (λ late. lost_no_way c.args.proxy c.args.place c.args.generation pool c.in-Some.site.now at none late.there)))
