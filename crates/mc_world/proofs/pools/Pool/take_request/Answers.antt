use Rattle.std.proofs.Common.{◌≡◌, ℕ, refl, sym, subst}
use Rattle.mc_proxy.specs.SessionTurns.{IsTurn}
use Rattle.mc_proxy.specs.declared.session_turns.SessionTurn.{SessionTurn}
use Rattle.mc_proxy.specs.declared.session_turns.SessionTurn.TheVariants as turns
use Rattle.mc_proxy.specs.Turns.{CanTurn, Steps}
use Rattle.mc_world.specs.Homes.{home_in}
use Rattle.mc_world.specs.WorldState.{proxy_in, with_proxy}
use Rattle.mc_world.proofs.PoolEvents.AppliesLemmas.{it_applies, it_does_not, not_ready, pool_of, was_ready}
use Rattle.mc_world.proofs.PoolEvents.StillLemmas.{same_pool, turn_still}
use Rattle.mc_world.proofs.pools.Pool.take_request.Goals as goal

pub returns-in_default : goal.returns-in_default
returns-in_default g c =
    let home : c.home-home.result ≡ home_in c.self.inside.homes.items c.args.client = rw (← c.self.view_is) at c.home-home.ensures in
    let turned = c.in-Ok.ensures.turn in
    let still : turned.0 ≡ (proxy_in c.self.inside.proxies c.home-home.result) = turn_still c.args.client _ (proxy_in c.self.inside.proxies c.home-home.result) turned.0 c.in_default.not-Took turned.1 in
    record {
      takes = rw (← c.self.view_is) (same_pool c.home-home.result c.self.inside.homes.items c.self.inside.proxies c.turn.new.self c.self.inside.sites.items turned.0 turned.2 still);
      applies = rw (← c.self.view_is) (it_does_not (λ can.
          let own = subst (λ (proxy : ℕ). CanTurn c.args.client (proxy_in c.self.inside.proxies proxy)) (sym home) can in
          not_ready c.args.client _ (proxy_in c.self.inside.proxies c.home-home.result) turned.0 c.in_default.not-Took turned.1 own.0 own.1 own.2));
      err = tt;
      err_applies = tt;
    }

pub returns-clause-takes : goal.returns-clause-takes
returns-clause-takes g c =
    let home : c.home-home.result ≡ home_in c.self.inside.homes.items c.args.client = rw (← c.self.view_is) at c.home-home.ensures in
    let turned = c.in-Ok.ensures.turn in
    let first : Steps c.args.client (proxy_in c.self.inside.proxies c.home-home.result) turned.0 (IsTurn c.args.client turns.Took (proxy_in c.self.inside.proxies c.home-home.result).ring
    (proxy_in c.self.inside.proxies c.home-home.result).losses) =
    subst (λ (t : SessionTurn). Steps c.args.client (proxy_in c.self.inside.proxies c.home-home.result) turned.0 (IsTurn c.args.client t (proxy_in c.self.inside.proxies c.home-home.result).ring
    (proxy_in c.self.inside.proxies c.home-home.result).losses)) c.in-Took.is turned.1 in
    rw (← c.self.view_is) (record {
      now = turned.0;
      steps = subst (λ (proxy : ℕ). Steps c.args.client (proxy_in c.self.inside.proxies proxy) turned.0 (IsTurn c.args.client turns.Took (proxy_in c.self.inside.proxies proxy).ring (proxy_in c.self.inside.proxies proxy).losses)) home first;
      proxy = record { proxies = subst (λ (proxy : ℕ). c.turn.new.self ≡ with_proxy proxy turned.0 c.self.inside.proxies) home turned.2; homes = refl };
      sites = refl;
    })

pub returns-clause-applies : goal.returns-clause-applies
returns-clause-applies g c =
    let home : c.home-home.result ≡ home_in c.self.inside.homes.items c.args.client = rw (← c.self.view_is) at c.home-home.ensures in
    let turned = c.in-Ok.ensures.turn in
    let first : Steps c.args.client (proxy_in c.self.inside.proxies c.home-home.result) turned.0 (IsTurn c.args.client turns.Took (proxy_in c.self.inside.proxies c.home-home.result).ring
    (proxy_in c.self.inside.proxies c.home-home.result).losses) =
    subst (λ (t : SessionTurn). Steps c.args.client (proxy_in c.self.inside.proxies c.home-home.result) turned.0 (IsTurn c.args.client t (proxy_in c.self.inside.proxies c.home-home.result).ring
    (proxy_in c.self.inside.proxies c.home-home.result).losses)) c.in-Took.is turned.1 in
    rw (← c.self.view_is) (it_applies (was_ready c.args.client (pool_of c.self.inside.homes.items c.self.inside.proxies c.self.inside.sites.items) turned.0
    (subst (λ (proxy : ℕ). Steps c.args.client (proxy_in c.self.inside.proxies proxy) turned.0 (IsTurn c.args.client turns.Took (proxy_in c.self.inside.proxies proxy).ring (proxy_in c.self.inside.proxies proxy).losses)) home first)))
