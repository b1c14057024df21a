use Rattle.std.proofs.Common.{rules, ◌≡◌, ◌∙◌, ◌+◌, ◌-◌, ◌^◌, ◌<◌, ℕ, true, false, Some, length, slice_get, refl, sym, ap, subst, arith}
use Rattle.std.proofs.lemmas.Option.{same_Some, slice_get_read}
use Rattle.mc_proxy.specs.SessionState.{link_at}
use Rattle.mc_world.specs.Serving.{PoolServes}
use Rattle.mc_world.specs.WorldState.{SiteState, WayState, proxy_in, way_by}
use Rattle.mc_world.specs.Applies.{CanAdmit}
use Rattle.mc_world.specs.Happens.{ComesBack, Does}
use Rattle.mc_world.specs.declared.errors.Step.{Step}
use Rattle.mc_world.proofs.PoolEvents.AppliesLemmas.{at_error, came_back, can_return, it_applies, it_does_not, none_left, pool_of, up_stays}
use Rattle.mc_world.proofs.PoolEvents.ProxyLemmas.{link_is_there}
use Rattle.mc_world.proofs.pools.Pool.return_link.Goals as goal

pub returns-then-is_up-clause-applies : goal.returns-then-is_up-clause-applies
returns-then-is_up-clause-applies g c =
    let up : (link_at (proxy_in c.self.inside.proxies c.args.proxy).links c.args.place).up ≡ true = search rules in
    rw (← c.self.view_is) (it_does_not (λ can. up_stays (link_at (proxy_in c.self.inside.proxies c.args.proxy).links c.args.place) up can.can))

pub returns-then-generation-clause-applies : goal.returns-then-generation-clause-applies
returns-then-generation-clause-applies g c =
    let inside = c.in-Some.ensures.variant.0 refl in
    let kept = c.self.inside.sites.ok in
    let at : slice_get c.self.inside.sites.items c.args.place ≡ Some c.in-Some.site.now = slice_get_read _ _ c.args.place c.in-Some.site.now refl (omega (arith, inside, kept)) (search rules) in
    let serves : PoolServes (pool_of c.self.inside.homes.items c.self.inside.proxies c.self.inside.sites.items) = subst PoolServes (sym c.self.view_is) c.requires.serves in
    let own = serves.sites c.args.place c.in-Some.site.now at in
    let last : c.way-generation.result.generation ≡ 2 ^ 64 - 1 = search rules in
    rw (← c.self.view_is) (it_does_not (λ can. none_left (link_at (proxy_in c.self.inside.proxies c.args.proxy).links c.args.place) (sym (own.ways c.args.proxy).generation ∙ sym (ap (λ
    (w : WayState). w.generation) c.way-generation.ensures) ∙ last) can.can))

pub returns-in_default-2-clause-applies : goal.returns-in_default-2-clause-applies
returns-in_default-2-clause-applies g c =
    let inside = c.in-Some.ensures.variant.0 refl in
    let kept = c.self.inside.sites.ok in
    let at : slice_get c.self.inside.sites.items c.args.place ≡ Some c.in-Some.site.now = slice_get_read _ _ c.args.place c.in-Some.site.now refl (omega (arith, inside, kept)) (search rules) in
    let serves : PoolServes (pool_of c.self.inside.homes.items c.self.inside.proxies c.self.inside.sites.items) = subst PoolServes (sym c.self.view_is) c.requires.serves in
    let own = serves.sites c.args.place c.in-Some.site.now at in
    rw (← c.self.view_is) (it_does_not (λ can.
    let same : can.site ≡ c.in-Some.site.now = same_Some can.site c.in-Some.site.now (sym can.at ∙ at) in
    c.in_default-2.not-Done (c.in_ok-come_back.ensures.applies.1 (subst (λ (s : SiteState). CanAdmit s.server) same can.admits))))

pub come_back-requires : goal.come_back-requires
come_back-requires g c =
    let inside = c.in-Some.ensures.variant.0 refl in
    let kept = c.self.inside.sites.ok in
    let at : slice_get c.self.inside.sites.items c.args.place ≡ Some c.in-Some.site.now = slice_get_read _ _ c.args.place c.in-Some.site.now refl (omega (arith, inside, kept)) (search rules) in
    let serves : PoolServes (pool_of c.self.inside.homes.items c.self.inside.proxies c.self.inside.sites.items) = subst PoolServes (sym c.self.view_is) c.requires.serves in
    let there : c.args.place < length (proxy_in c.self.inside.proxies c.args.proxy).links = search rules in
    let proxy_there = link_is_there c.args.proxy c.args.place (pool_of c.self.inside.homes.items c.self.inside.proxies c.self.inside.sites.items) there in
    omega (arith, proxy_there, serves.ways c.args.place c.in-Some.site.now at)

pub back-requires-clause-can : goal.back-requires-clause-can
back-requires-clause-can g c =
    let inside = c.in-Some.ensures.variant.0 refl in
    let kept = c.self.inside.sites.ok in
    let at : slice_get c.self.inside.sites.items c.args.place ≡ Some c.in-Some.site.now = slice_get_read _ _ c.args.place c.in-Some.site.now refl (omega (arith, inside, kept)) (search rules) in
    let serves : PoolServes (pool_of c.self.inside.homes.items c.self.inside.proxies c.self.inside.sites.items) = subst PoolServes (sym c.self.view_is) c.requires.serves in
    let own = serves.sites c.args.place c.in-Some.site.now at in
    let down : (link_at (proxy_in c.self.inside.proxies c.args.proxy).links c.args.place).up ≡ false = search rules in
    let fits : c.way-generation.result.generation < 2 ^ 64 - 1 = search rules in
    let below : (link_at (proxy_in c.self.inside.proxies c.args.proxy).links c.args.place).generation < 2 ^ 64 - 1 = omega (arith, fits, ap (λ (w : WayState). w.generation) c.way-generation.ensures, (own.ways c.args.proxy).generation) in
    can_return (link_at (proxy_in c.self.inside.proxies c.args.proxy).links c.args.place) down below

pub returns-clause-returns : goal.returns-clause-returns
returns-clause-returns g c =
    let inside = c.in-Some.ensures.variant.0 refl in
    let kept = c.self.inside.sites.ok in
    let at : slice_get c.self.inside.sites.items c.args.place ≡ Some c.in-Some.site.now = slice_get_read _ _ c.args.place c.in-Some.site.now refl (omega (arith, inside, kept)) (search rules) in
    let serves : PoolServes (pool_of c.self.inside.homes.items c.self.inside.proxies c.self.inside.sites.items) = subst PoolServes (sym c.self.view_is) c.requires.serves in
    let own = serves.sites c.args.place c.in-Some.site.now at in
    let down : (link_at (proxy_in c.self.inside.proxies c.args.proxy).links c.args.place).up ≡ false = search rules in
    let fits : c.way-generation.result.generation < 2 ^ 64 - 1 = search rules in
    let below : (link_at (proxy_in c.self.inside.proxies c.args.proxy).links c.args.place).generation < 2 ^ 64 - 1 = omega (arith, fits, ap (λ (w : WayState). w.generation) c.way-generation.ensures, (own.ways c.args.proxy).generation) in
    let there : c.args.place < length (proxy_in c.self.inside.proxies c.args.proxy).links = search rules in
    let first : ComesBack c.args.proxy (c.way-generation.result.generation + 1) c.in-Some.site.now c.come_back.new.self =
    subst (λ (step : Step). Does step (ComesBack c.args.proxy (c.way-generation.result.generation + 1) c.in-Some.site.now c.come_back.new.self) (c.come_back.new.self ≡ c.in-Some.site.now)) c.in-Done.is c.in_ok-come_back.ensures.back in
    let back : ComesBack c.args.proxy ((way_by c.in-Some.site.now c.args.proxy).generation + 1) c.in-Some.site.now c.come_back.new.self =
    subst (λ (n : ℕ). ComesBack c.args.proxy (n + 1) c.in-Some.site.now c.come_back.new.self) (ap (λ (w : WayState). w.generation) c.way-generation.ensures) first in
    rw (← c.self.view_is) (came_back c.args.proxy c.args.place c.self.inside.homes.items c.self.inside.proxies c.back.new.self c.self.inside.sites.items c.in-Some.site.now c.come_back.new.self at there (own.ways c.args.proxy).generation
    (can_return (link_at (proxy_in c.self.inside.proxies c.args.proxy).links c.args.place) down below) back (search rules))

pub returns-clause-applies : goal.returns-clause-applies
returns-clause-applies g c =
    let inside = c.in-Some.ensures.variant.0 refl in
    let kept = c.self.inside.sites.ok in
    let at : slice_get c.self.inside.sites.items c.args.place ≡ Some c.in-Some.site.now = slice_get_read _ _ c.args.place c.in-Some.site.now refl (omega (arith, inside, kept)) (search rules) in
    let serves : PoolServes (pool_of c.self.inside.homes.items c.self.inside.proxies c.self.inside.sites.items) = subst PoolServes (sym c.self.view_is) c.requires.serves in
    let own = serves.sites c.args.place c.in-Some.site.now at in
    let down : (link_at (proxy_in c.self.inside.proxies c.args.proxy).links c.args.place).up ≡ false = search rules in
    let fits : c.way-generation.result.generation < 2 ^ 64 - 1 = search rules in
    let below : (link_at (proxy_in c.self.inside.proxies c.args.proxy).links c.args.place).generation < 2 ^ 64 - 1 = omega (arith, fits, ap (λ (w : WayState). w.generation) c.way-generation.ensures, (own.ways c.args.proxy).generation) in
    let there : c.args.place < length (proxy_in c.self.inside.proxies c.args.proxy).links = search rules in
    let admits : CanAdmit c.in-Some.site.now.server = c.in_ok-come_back.ensures.applies.0 c.in-Done.is in
    rw (← c.self.view_is) (it_applies (record { site = c.in-Some.site.now; at = at; inside = there; can = can_return (link_at (proxy_in c.self.inside.proxies c.args.proxy).links c.args.place) down below; admits = admits }))

-- memory is refused only if the server can admit a connection
pub returns-in_err-come_back-clause-err_applies : goal.returns-in_err-come_back-clause-err_applies
returns-in_err-come_back-clause-err_applies g c =
    let inside = c.in-Some.ensures.variant.0 refl in
    let kept = c.self.inside.sites.ok in
    let at : slice_get c.self.inside.sites.items c.args.place ≡ Some c.in-Some.site.now = slice_get_read _ _ c.args.place c.in-Some.site.now refl (omega (arith, inside, kept)) (search rules) in
    let serves : PoolServes (pool_of c.self.inside.homes.items c.self.inside.proxies c.self.inside.sites.items) = subst PoolServes (sym c.self.view_is) c.requires.serves in
    let own = serves.sites c.args.place c.in-Some.site.now at in
    let down : (link_at (proxy_in c.self.inside.proxies c.args.proxy).links c.args.place).up ≡ false = search rules in
    let fits : c.way-generation.result.generation < 2 ^ 64 - 1 = search rules in
    let below : (link_at (proxy_in c.self.inside.proxies c.args.proxy).links c.args.place).generation < 2 ^ 64 - 1 = omega (arith, fits, ap (λ (w : WayState). w.generation) c.way-generation.ensures, (own.ways c.args.proxy).generation) in
    let there : c.args.place < length (proxy_in c.self.inside.proxies c.args.proxy).links = search rules in
    rw (← c.self.view_is) (at_error _ c.from_residual.result
    (record { site = c.in-Some.site.now; at = at; inside = there; can = can_return (link_at (proxy_in c.self.inside.proxies c.args.proxy).links c.args.place) down below; admits = c.in_err-come_back.ensures.err_admits }))
