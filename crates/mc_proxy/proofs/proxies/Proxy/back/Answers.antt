use Rattle.std.proofs.Common.{refl}
use Rattle.mc_proxy.proofs.LinkLemmas.{states-set, states-set_same, at_error}
use Rattle.mc_proxy.proofs.proxies.Proxy.back.Goals as goal

-- the link that refused is as it was
pub returns-in_err-back-clause-err : goal.returns-in_err-back-clause-err
returns-in_err-back-clause-err c =
    at_error c.from_residual.result (rw (← c.self.view_is, states-set_same c.self.inside.links.items c.args.server c.in-Some.link.now c.back.new.self c.in-Some.ensures.value c.in_err-back.ensures.err) refl)

-- the link at the place is changed
pub returns-clause-back : goal.returns-clause-back
returns-clause-back c = rw (← c.self.view_is, states-set, c.in_ok-back.ensures.back.1) refl
