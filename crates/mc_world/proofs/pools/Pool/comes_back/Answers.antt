use Rattle.std.proofs.Common.{rules, ◌≡◌, ◌∙◌, ◌<◌, true, List, Some, None, length, slice_get, refl, sym, ap}
use Rattle.std.specs.Prelude.{◌↔◌, IsTrue, not}
use Rattle.std.proofs.lemmas.Option.{none-some, slice_get_past, slice_get_read}
use Rattle.mc_server.specs.ServerState.{connection_at, output_of}
use Rattle.mc_proxy.specs.SessionState.{link_at}
use Rattle.mc_world.specs.WorldState.{SiteState, proxy_in, way_by}
use Rattle.mc_world.proofs.PoolEvents.AppliesLemmas.{pool_of}
use Rattle.mc_world.proofs.PoolEvents.ApplyingLemmas.{comes_if, never, some_if}
use Rattle.mc_world.proofs.pools.Pool.comes_back.Goals as goal

-- no server has this place
pub returns-in_default : goal.returns-in_default
returns-in_default g c =
    let none : slice_get c.self.inside.sites.items c.args.place ≡ None =
    ap (λ (ss : List SiteState). slice_get ss c.args.place) (sym c.deref.ensures.value) ∙ slice_get_past c.deref.result.now c.args.place c.in_default.ensures.lookup.3 in
    rw (← c.self.view_is) (λ count asked. never _ (λ can. none-some can.site (sym none ∙ can.at)))

-- the link is up
pub returns : goal.returns
returns g c =
    let at : slice_get c.self.inside.sites.items c.args.place ≡ Some c.in-Some.site.now =
    ap (λ (ss : List SiteState). slice_get ss c.args.place) (sym c.deref.ensures.value)
    ∙ slice_get_read c.deref.result.now _ c.args.place c.in-Some.site.now refl c.in-Some.ensures.lookup.3.0 c.in-Some.ensures.lookup.1 in
    let pool = pool_of c.self.inside.homes.items c.self.inside.proxies c.self.inside.sites.items in
    let up : (link_at (proxy_in c.self.inside.proxies c.args.proxy).links c.args.place).up ≡ true = search rules in
    let some : IsTrue (not c.is_empty.result) ↔ (0 < length (output_of (connection_at c.in-Some.site.now.server (way_by c.in-Some.site.now c.args.proxy).connection))) =
    rw c.output.ensures at (some_if c.is_empty.result (length c.output.result.now) c.is_empty.ensures) in
    rw (← c.self.view_is) (λ count asked. comes_if c.args.proxy c.args.place count pool c.in-Some.site.now at up asked (not c.is_empty.result) some)
