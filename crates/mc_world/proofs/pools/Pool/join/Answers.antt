use Rattle.std.proofs.Common.{rules, ◌≡◌, ◌∙◌, ◌++◌, ◌∷◌, [], ℕ, true, List, None, length, replicate, refl, sym, ap, subst, arith}
use Rattle.mc_server.specs.ServerState.{ServerState, with_fresh}
use Rattle.mc_proxy.specs.Joins.{JoinsServer}
use Rattle.mc_world.specs.Joins.{joined_site}
use Rattle.mc_world.specs.Refusals.{join_refusal_of}
use Rattle.mc_world.specs.Serving.{PoolServes}
use Rattle.mc_world.specs.WorldState.{SiteState, WayState, no_way, proxy_in, with_way}
use Rattle.mc_world.proofs.PoolEvents.AppliesLemmas.{pool_of}
use Rattle.mc_world.proofs.PoolEvents.RefusalLemmas.{join_fits, told_join}
use Rattle.mc_world.proofs.pools.Pool.join.Goals as goal

-- a refusal's cause is not memory
pub returns-in-Some-clause-refused : goal.returns-in-Some-clause-refused
returns-in-Some-clause-refused g c =
    rw (← c.self.view_is) (told_join (pool_of c.self.inside.homes.items c.self.inside.proxies c.self.inside.sites.items) c.args.proxy c.args.address c.in-Some.cause (rw (← c.self.view_is) at (sym c.in-Some.is ∙ c.join_refusal.ensures)))

pub join_server-requires : goal.join_server-requires
join_server-requires g c =
    let none : None ≡ join_refusal_of (pool_of c.self.inside.homes.items c.self.inside.proxies c.self.inside.sites.items) c.args.proxy c.args.address = rw (← c.self.view_is) at (sym c.in_default.is ∙ c.join_refusal.ensures) in
    let fits = join_fits (pool_of c.self.inside.homes.items c.self.inside.proxies c.self.inside.sites.items) c.args.proxy c.args.address none in
    record { there = fits.0 }

pub returns-clause-joined : goal.returns-clause-joined
returns-clause-joined g c =
    let serves : PoolServes (pool_of c.self.inside.homes.items c.self.inside.proxies c.self.inside.sites.items) = subst PoolServes (sym c.self.view_is) c.requires.serves in
    let none : None ≡ join_refusal_of (pool_of c.self.inside.homes.items c.self.inside.proxies c.self.inside.sites.items) c.args.proxy c.args.address = rw (← c.self.view_is) at (sym c.in_default.is ∙ c.join_refusal.ensures) in
    let fits = join_fits (pool_of c.self.inside.homes.items c.self.inside.proxies c.self.inside.sites.items) c.args.proxy c.args.address none in
    let turned = c.in-Ok-join_server.ensures.joined in
    let ways_are : c.in-Ok-joined_ways.ways.items ≡ with_way c.args.proxy (record { generation = 1; connection = 0; ahead = 0 }) (replicate (length c.self.inside.proxies) no_way) =
    c.in-Ok-joined_ways.ensures ∙ ap (λ (n : ℕ). with_way c.args.proxy (record { generation = 1; connection = 0; ahead = 0 }) (replicate n no_way)) c.count.ensures in
    let site_is : c.first.result ≡ joined_site c.args.server.cache (length c.self.inside.proxies) c.args.proxy =
    c.first.ensures
    ∙ ap (λ (s : ServerState). record { server = s; history = []; begun = 0; ways = c.in-Ok-joined_ways.ways.items; lost = [] })
    (c.in-Ok-admit.ensures.admitted ∙ ap (λ (s : ServerState). with_fresh s) c.requires.fresh)
    ∙ ap (λ (ways : List WayState). record (joined_site c.args.server.cache (length c.self.inside.proxies) c.args.proxy) { ways = ways }) ways_are in
    let items : c.push_reserved.new.self.items ≡ c.self.inside.sites.items ++ c.first.result ∷ [] = search rules in
    rw (← c.self.view_is) (record {
      inside = fits.0;
      all = omega (arith, fits.1, serves.sited c.args.proxy, c.servers-place.ensures.ring, c.servers-place.ensures.linked);
      now = turned.0;
      joins = subst (λ (n : ℕ). JoinsServer c.args.address true n (proxy_in c.self.inside.proxies c.args.proxy) turned.0) turned.1.last turned.1;
      is_ring = turned.2;
      proxies = record { proxies = turned.3; homes = refl };
      sites = items ∙ ap (λ (s : SiteState). c.self.inside.sites.items ++ s ∷ []) site_is;
    })
