use Rattle.std.proofs.Common.{rules, ◌≡◌, ◌∙◌, ◌-◌, ◌^◌, ◌<◌, true, false, List, Some, length, slice_get, refl, sym, ap, subst, arith}
use Rattle.std.specs.Prelude.{◌↔◌, IsTrue}
use Rattle.std.proofs.lemmas.Option.{slice_get_read}
use Rattle.mc_link.specs.LinkState.{can_come_back}
use Rattle.mc_proxy.specs.SessionState.{link_at}
use Rattle.mc_world.specs.Applies.{CanAdmit, CanReturn}
use Rattle.mc_world.specs.Serving.{PoolServes}
use Rattle.mc_world.specs.WorldState.{SiteState, WayState, proxy_in}
use Rattle.mc_world.proofs.PoolEvents.AppliesLemmas.{can_return, none_left, pool_of, up_stays}
use Rattle.mc_world.proofs.PoolEvents.ApplyingLemmas.{never, not_so, returns_if}
use Rattle.mc_world.proofs.pools.Pool.can_return.Goals as goal

-- the link is up
pub returns-then-is_up : goal.returns-then-is_up
returns-then-is_up g c =
    let up : (link_at (proxy_in c.self.inside.proxies c.args.proxy).links c.args.place).up ≡ true = search rules in
    rw (← c.self.view_is) (never _ (λ can. up_stays (link_at (proxy_in c.self.inside.proxies c.args.proxy).links c.args.place) up can.can))

-- the proxy has no such link
pub returns-then-not-has_link : goal.returns-then-not-has_link
returns-then-not-has_link g c =
    let none : c.has_link.result ≡ false = search rules in
    let pool = pool_of c.self.inside.homes.items c.self.inside.proxies c.self.inside.sites.items in
    rw (← c.self.view_is) (never _ (not_so {P = CanReturn c.args.proxy c.args.place pool} c.has_link.result none (λ can. c.has_link.ensures.1 can.inside)))

-- no generation is left
pub returns-then-way : goal.returns-then-way
returns-then-way g c =
    let at : slice_get c.self.inside.sites.items c.args.place ≡ Some c.in-Some.site.now =
    ap (λ (ss : List SiteState). slice_get ss c.args.place) (sym c.deref.ensures.value)
    ∙ slice_get_read c.deref.result.now _ c.args.place c.in-Some.site.now refl c.in-Some.ensures.lookup.3.0 c.in-Some.ensures.lookup.1 in
    let serves : PoolServes (pool_of c.self.inside.homes.items c.self.inside.proxies c.self.inside.sites.items) = subst PoolServes (sym c.self.view_is) c.requires.serves in
    let own = serves.sites c.args.place c.in-Some.site.now at in
    let last : c.way.result.generation ≡ 2 ^ 64 - 1 = search rules in
    rw (← c.self.view_is) (never _ (λ can. none_left (link_at (proxy_in c.self.inside.proxies c.args.proxy).links c.args.place) (sym (own.ways c.args.proxy).generation ∙ sym (ap (λ
    (w : WayState). w.generation) c.way.ensures) ∙ last) can.can))

-- the link is down, and a generation is left
pub returns : goal.returns
returns g c =
    let at : slice_get c.self.inside.sites.items c.args.place ≡ Some c.in-Some.site.now =
    ap (λ (ss : List SiteState). slice_get ss c.args.place) (sym c.deref.ensures.value)
    ∙ slice_get_read c.deref.result.now _ c.args.place c.in-Some.site.now refl c.in-Some.ensures.lookup.3.0 c.in-Some.ensures.lookup.1 in
    let pool = pool_of c.self.inside.homes.items c.self.inside.proxies c.self.inside.sites.items in
    let serves : PoolServes pool = subst PoolServes (sym c.self.view_is) c.requires.serves in
    let own = serves.sites c.args.place c.in-Some.site.now at in
    let down : (link_at (proxy_in c.self.inside.proxies c.args.proxy).links c.args.place).up ≡ false = search rules in
    let fits : c.way.result.generation < 2 ^ 64 - 1 = search rules in
    let below : (link_at (proxy_in c.self.inside.proxies c.args.proxy).links c.args.place).generation < 2 ^ 64 - 1 = omega (arith, fits, ap (λ (w : WayState). w.generation) c.way.ensures, (own.ways c.args.proxy).generation) in
    let can : can_come_back (link_at (proxy_in c.self.inside.proxies c.args.proxy).links c.args.place) ≡ true = can_return (link_at (proxy_in c.self.inside.proxies c.args.proxy).links c.args.place) down below in
    let admits : IsTrue c.can_admit.result ↔ CanAdmit c.in-Some.site.now.server = search rules in
    let there : c.args.place < length (proxy_in c.self.inside.proxies c.args.proxy).links = c.has_link.ensures.0 (search rules) in
    rw (← c.self.view_is) (returns_if c.args.proxy c.args.place pool c.in-Some.site.now at there can c.can_admit.result admits)
