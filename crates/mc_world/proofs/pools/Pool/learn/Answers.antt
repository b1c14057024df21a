use Rattle.std.proofs.Common.{◌≡◌, ◌∙◌, ℕ, false, None, refl, sym, subst}
use Rattle.mc_proxy.specs.Joins.{JoinsServer}
use Rattle.mc_world.specs.Refusals.{learn_refusal_of}
use Rattle.mc_world.specs.WorldState.{proxy_in}
use Rattle.mc_world.proofs.PoolEvents.AppliesLemmas.{pool_of}
use Rattle.mc_world.proofs.PoolEvents.RefusalLemmas.{learn_fits, told_learn}
use Rattle.mc_world.proofs.pools.Pool.learn.Goals as goal

-- a refusal's cause is not memory
pub returns-in-Some-clause-refused : goal.returns-in-Some-clause-refused
returns-in-Some-clause-refused g c =
    rw (← c.self.view_is) (told_learn (pool_of c.self.inside.homes.items c.self.inside.proxies c.self.inside.sites.items) c.args.proxy c.args.address c.in-Some.cause (rw (← c.self.view_is) at (sym c.in-Some.is ∙ c.learn_refusal.ensures)))

pub join_server-requires : goal.join_server-requires
join_server-requires g c =
    let none : None ≡ learn_refusal_of (pool_of c.self.inside.homes.items c.self.inside.proxies c.self.inside.sites.items) c.args.proxy c.args.address = rw (← c.self.view_is) at (sym c.in_default.is ∙ c.learn_refusal.ensures) in
    let fits = learn_fits (pool_of c.self.inside.homes.items c.self.inside.proxies c.self.inside.sites.items) c.args.proxy c.args.address none in
    record { there = fits.0 }

pub returns-clause-learned : goal.returns-clause-learned
returns-clause-learned g c =
    let none : None ≡ learn_refusal_of (pool_of c.self.inside.homes.items c.self.inside.proxies c.self.inside.sites.items) c.args.proxy c.args.address = rw (← c.self.view_is) at (sym c.in_default.is ∙ c.learn_refusal.ensures) in
    let fits = learn_fits (pool_of c.self.inside.homes.items c.self.inside.proxies c.self.inside.sites.items) c.args.proxy c.args.address none in
    let turned = c.in_ok-place.ensures.joined in
    rw (← c.self.view_is) (record {
      inside = fits.0;
      more = fits.1;
      now = turned.0;
      joins = subst (λ (n : ℕ). JoinsServer c.args.address false n (proxy_in c.self.inside.proxies c.args.proxy) turned.0) turned.1.last turned.1;
      is_ring = turned.2;
      proxies = record { proxies = turned.3; homes = refl };
      sites = refl;
    })
