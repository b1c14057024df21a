use Rattle.std.proofs.Common.{rules, ◌≡◌, ◌∙◌, ◌≤◌, ℕ, true, Some, None, length, slice_get, refl, sym, ap, subst, arith}
use Rattle.std.proofs.lemmas.Option.{slice_get_read}
use Rattle.mc_proxy.specs.SessionState.{link_at}
use Rattle.mc_world.specs.Serving.{PoolServes}
use Rattle.mc_world.specs.Happens.{Does, Enters}
use Rattle.mc_world.specs.declared.errors.Step.{Step}
use Rattle.mc_world.specs.WorldState.{WayState, proxy_in, way_by}
use Rattle.mc_world.proofs.PoolEvents.AppliesLemmas.{it_applies, it_does_not, pool_of, serves_if}
use Rattle.mc_world.proofs.SiteEvents.TagLemmas.{no_tag, tag_at, tag_of_waiting}
use Rattle.mc_world.proofs.pools.Pool.server_turn.Goals as goal

pub returns-then-ahead-waiting-clause-applies : goal.returns-then-ahead-waiting-clause-applies
returns-then-ahead-waiting-clause-applies g c =
    let inside = c.in-Some.ensures.variant.0 refl in
    let kept = c.self.inside.sites.ok in
    let at : slice_get c.self.inside.sites.items c.args.place ≡ Some c.in-Some.site.now = slice_get_read _ _ c.args.place c.in-Some.site.now refl (omega (arith, inside, kept)) (search rules) in
    let serves : PoolServes (pool_of c.self.inside.homes.items c.self.inside.proxies c.self.inside.sites.items) = subst PoolServes (sym c.self.view_is) c.requires.serves in
    let own = serves.sites c.args.place c.in-Some.site.now at in
    let up : (link_at (proxy_in c.self.inside.proxies c.args.proxy).links c.args.place).up ≡ true = search rules in
    let few : length (link_at (proxy_in c.self.inside.proxies c.args.proxy).links c.args.place).waiting ≤ (way_by c.in-Some.site.now c.args.proxy).ahead =
    omega (arith, c.if-ahead-waiting.true, ap (λ (w : WayState). w.ahead) c.way-ahead.ensures, c.waiting.ensures) in
    rw (← c.self.view_is) (it_does_not (λ can. let more = (own.ways c.args.proxy).waits up (serves_if c.args.proxy c.args.place
    (pool_of c.self.inside.homes.items c.self.inside.proxies c.self.inside.sites.items) c.in-Some.site.now at can) in omega (arith, more, few)))

pub returns-in_default-tag-clause-applies : goal.returns-in_default-tag-clause-applies
returns-in_default-tag-clause-applies g c =
    let inside = c.in-Some.ensures.variant.0 refl in
    let kept = c.self.inside.sites.ok in
    let at : slice_get c.self.inside.sites.items c.args.place ≡ Some c.in-Some.site.now = slice_get_read _ _ c.args.place c.in-Some.site.now refl (omega (arith, inside, kept)) (search rules) in
    let serves : PoolServes (pool_of c.self.inside.homes.items c.self.inside.proxies c.self.inside.sites.items) = subst PoolServes (sym c.self.view_is) c.requires.serves in
    let own = serves.sites c.args.place c.in-Some.site.now at in
    let up : (link_at (proxy_in c.self.inside.proxies c.args.proxy).links c.args.place).up ≡ true = search rules in
    let none : tag_at (link_at (proxy_in c.self.inside.proxies c.args.proxy).links c.args.place).waiting (way_by c.in-Some.site.now c.args.proxy).ahead ≡ None =
    ap (λ (n : ℕ). tag_at (link_at (proxy_in c.self.inside.proxies c.args.proxy).links c.args.place).waiting n) (sym (ap (λ (w : WayState). w.ahead) c.way-ahead.ensures)) ∙ sym c.tag.ensures ∙ c.in_default-tag.is in
    rw (← c.self.view_is) (it_does_not (λ can. no_tag (link_at (proxy_in c.self.inside.proxies c.args.proxy).links c.args.place).waiting (way_by c.in-Some.site.now c.args.proxy).ahead none ((own.ways c.args.proxy).waits up
    (serves_if c.args.proxy c.args.place (pool_of c.self.inside.homes.items c.self.inside.proxies c.self.inside.sites.items) c.in-Some.site.now at can))))

pub turn-requires-clause-serves : goal.turn-requires-clause-serves
turn-requires-clause-serves g c =
    let inside = c.in-Some.ensures.variant.0 refl in
    let kept = c.self.inside.sites.ok in
    let at : slice_get c.self.inside.sites.items c.args.place ≡ Some c.in-Some.site.now = slice_get_read _ _ c.args.place c.in-Some.site.now refl (omega (arith, inside, kept)) (search rules) in
    let serves : PoolServes (pool_of c.self.inside.homes.items c.self.inside.proxies c.self.inside.sites.items) = subst PoolServes (sym c.self.view_is) c.requires.serves in
    let own = serves.sites c.args.place c.in-Some.site.now at in
    let up : (link_at (proxy_in c.self.inside.proxies c.args.proxy).links c.args.place).up ≡ true = search rules in
    (own.ways c.args.proxy).living up

pub returns-in_default-2-clause-applies : goal.returns-in_default-2-clause-applies
returns-in_default-2-clause-applies g c =
    let inside = c.in-Some.ensures.variant.0 refl in
    let kept = c.self.inside.sites.ok in
    let at : slice_get c.self.inside.sites.items c.args.place ≡ Some c.in-Some.site.now = slice_get_read _ _ c.args.place c.in-Some.site.now refl (omega (arith, inside, kept)) (search rules) in
    let serves : PoolServes (pool_of c.self.inside.homes.items c.self.inside.proxies c.self.inside.sites.items) = subst PoolServes (sym c.self.view_is) c.requires.serves in
    let own = serves.sites c.args.place c.in-Some.site.now at in
    let up : (link_at (proxy_in c.self.inside.proxies c.args.proxy).links c.args.place).up ≡ true = search rules in
    rw (← c.self.view_is) (it_does_not (λ can. c.in_default-2.not-Done (c.in_ok-turn.ensures.applies.1 (serves_if c.args.proxy c.args.place
    (pool_of c.self.inside.homes.items c.self.inside.proxies c.self.inside.sites.items) c.in-Some.site.now at can))))

pub returns-clause-takes : goal.returns-clause-takes
returns-clause-takes g c =
    let inside = c.in-Some.ensures.variant.0 refl in
    let kept = c.self.inside.sites.ok in
    let at : slice_get c.self.inside.sites.items c.args.place ≡ Some c.in-Some.site.now = slice_get_read _ _ c.args.place c.in-Some.site.now refl (omega (arith, inside, kept)) (search rules) in
    let up : (link_at (proxy_in c.self.inside.proxies c.args.proxy).links c.args.place).up ≡ true = search rules in
    let enters : Enters c.args.proxy c.args.moment c.in-Some-tag.tag c.in-Some.site.now c.turn.new.self =
    subst (λ (step : Step). Does step (Enters c.args.proxy c.args.moment c.in-Some-tag.tag c.in-Some.site.now c.turn.new.self) (c.turn.new.self ≡ c.in-Some.site.now)) c.in-Done.is c.in_ok-turn.ensures.enters in
    let tag : tag_at (link_at (proxy_in c.self.inside.proxies c.args.proxy).links c.args.place).waiting (way_by c.in-Some.site.now c.args.proxy).ahead ≡ Some c.in-Some-tag.tag =
    ap (λ (n : ℕ). tag_at (link_at (proxy_in c.self.inside.proxies c.args.proxy).links c.args.place).waiting n) (sym (ap (λ (w : WayState). w.ahead) c.way-ahead.ensures)) ∙ sym c.tag.ensures ∙ c.in-Some-tag.is in
    rw (← c.self.view_is) (record {
      there = record { site = c.in-Some.site.now; now = c.turn.new.self; at = at; up = up; sites = refl };
      tag = c.in-Some-tag.tag;
      next = tag_of_waiting (link_at (proxy_in c.self.inside.proxies c.args.proxy).links c.args.place).waiting (way_by c.in-Some.site.now c.args.proxy).ahead c.in-Some-tag.tag tag;
      enters = enters;
      proxies = record { proxies = refl; homes = refl };
    })

pub returns-clause-applies : goal.returns-clause-applies
returns-clause-applies g c =
    let inside = c.in-Some.ensures.variant.0 refl in
    let kept = c.self.inside.sites.ok in
    let at : slice_get c.self.inside.sites.items c.args.place ≡ Some c.in-Some.site.now = slice_get_read _ _ c.args.place c.in-Some.site.now refl (omega (arith, inside, kept)) (search rules) in
    let up : (link_at (proxy_in c.self.inside.proxies c.args.proxy).links c.args.place).up ≡ true = search rules in
    rw (← c.self.view_is) (it_applies (record { site = c.in-Some.site.now; at = at; up = up; waits = c.in_ok-turn.ensures.applies.0 c.in-Done.is }))
