use Rattle.std.proofs.Common.{◌≡◌, ◌∙◌, ℕ, suc, ◌+◌, ap, arith}
use Rattle.mc_proxy.specs.ProxyState.{ProxyState, with_fresh}
use Rattle.mc_world.specs.Worlds.{opening_proxy}
use Rattle.mc_world.proofs.Course.OpeningPartLemmas.{one_admitted}
use Rattle.mc_world.proofs.openings.opened_proxy.Goals as goal

-- one more client is admitted
pub loop-preserved : goal.loop-preserved
loop-preserved c =
    let next : suc c.loop.counter ≡ c.loop.counter + 1 = omega arith in
    c.in_ok-admit.ensures.admitted
    ∙ ap (λ (p : ProxyState). with_fresh p) c.loop.invariant
    ∙ one_admitted c.args.losses c.args.ring c.args.first c.loop.counter
    ∙ ap (λ (n : ℕ). opening_proxy c.args.losses c.args.ring c.args.first n) next
