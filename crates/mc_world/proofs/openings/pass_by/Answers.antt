use Rattle.std.proofs.Common.{◌∙◌, ap}
use Rattle.mc_proxy.specs.ProxyState.{ProxyState, with_fresh, without}
use Rattle.mc_world.proofs.Course.OpeningPartLemmas.{passed_by}
use Rattle.mc_world.proofs.openings.pass_by.Goals as goal

-- one more client has come and gone
pub loop-preserved : goal.loop-preserved
loop-preserved c =
    c.in_ok-gone.ensures.gone
    ∙ ap (λ (p : ProxyState). record p { sessions = without c.in_ok-client.client p.sessions }) (c.in_ok-client.ensures.admitted ∙ ap (λ (p : ProxyState). with_fresh p) c.loop.invariant)
    ∙ passed_by c.args.proxy.now.losses c.args.proxy.now.ring c.loop.counter c.in_ok-client.client (c.in_ok-client.ensures.number ∙ ap (λ (p : ProxyState). p.admitted) c.loop.invariant)
