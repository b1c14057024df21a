use Rattle.std.proofs.Common.{refl}
use Rattle.mc_proxy.proofs.proxies.Proxy.taken_out.Goals as goal

-- the session of the number is changed
pub returns : goal.returns
returns c = rw (← c.self.view_is, ← c.in-Some.ensures.value, c.taken_out.ensures) refl
