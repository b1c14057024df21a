use Rattle.std.proofs.Common.{refl}
use Rattle.mc_proxy.proofs.LinkLemmas.{states-set_same}
use Rattle.mc_proxy.proofs.proxies.Proxy.link_shrink_if_idle.Goals as goal

-- only room is freed
pub returns : goal.returns
returns c = rw (← c.self.view_is, states-set_same c.self.inside.links.items c.args.server c.in-Some.link.now c.shrink_if_idle.new.self c.in-Some.ensures.value c.shrink_if_idle.ensures) refl
