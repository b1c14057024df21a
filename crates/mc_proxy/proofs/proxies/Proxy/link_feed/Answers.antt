use Rattle.std.proofs.Common.{refl}
use Rattle.mc_proxy.proofs.LinkLemmas.{read_at, states-set, states-set_same, at_error}
use Rattle.mc_proxy.proofs.proxies.Proxy.link_feed.Goals as goal

-- the link that refused is as it was
pub returns-in_err-feed-clause-err : goal.returns-in_err-feed-clause-err
returns-in_err-feed-clause-err c =
    at_error c.from_residual.result (rw (← c.self.view_is, states-set_same c.self.inside.links.items c.args.server c.in-Some.link.now c.feed.new.self c.in-Some.ensures.value c.in_err-feed.ensures.err) refl)

-- the link at the place is changed
pub returns-clause-fed : goal.returns-clause-fed
returns-clause-fed c =
    let inside = c.in-Some.ensures.item.3.0 in
    rw (← c.self.view_is, states-set, read_at c.self.inside.links.items c.args.server c.in-Some.link.now inside c.in-Some.ensures.value, c.in_ok-feed.ensures.fed) refl
