use Rattle.std.proofs.Common.{◌≡◌}
use Rattle.mc_world.specs.WorldState.{proxy_in}
use Rattle.mc_world.proofs.PoolEvents.StillLemmas.{emit_still, same_pool}
use Rattle.mc_world.proofs.pools.Pool.put_answer.Goals as goal

pub returns-in_default-clause-puts : goal.returns-in_default-clause-puts
returns-in_default-clause-puts g c =
    let emitted = c.in-Ok.ensures.emit in
    let still : emitted.0 ≡ (proxy_in c.self.inside.proxies c.home-home.result) = emit_still c.args.client _ (proxy_in c.self.inside.proxies c.home-home.result) emitted.0 c.in_default.not-Done emitted.1 in
    rw (← c.self.view_is) (same_pool c.home-home.result c.self.inside.homes.items c.self.inside.proxies c.emit.new.self c.self.inside.sites.items emitted.0 emitted.2 still)
