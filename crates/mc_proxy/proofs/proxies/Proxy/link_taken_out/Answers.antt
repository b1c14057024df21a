use Rattle.std.proofs.Common.{refl}
use Rattle.mc_proxy.proofs.LinkLemmas.{read_at, states-set}
use Rattle.mc_proxy.proofs.proxies.Proxy.link_taken_out.Goals as goal

-- the link at the place is changed
pub returns : goal.returns
returns c =
    let inside = c.in-Some.ensures.item.3.0 in
    rw (← c.self.view_is, states-set, read_at c.self.inside.links.items c.args.server c.in-Some.link.now inside c.in-Some.ensures.value, c.taken_out.ensures.taken) refl
