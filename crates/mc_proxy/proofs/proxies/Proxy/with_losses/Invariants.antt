use Rattle.std.proofs.Common.{◌≡◌, replicate}
use Rattle.mc_link.specs.LinkState.{down_link}
use Rattle.mc_proxy.specs.SessionState.{states}
use Rattle.mc_proxy.proofs.proxies.Proxy.with_losses.Given as goal

-- the links so far are all down, and none was ever up
abbrev pub invariant-loop : goal.invariant-loop
invariant-loop l = states l.links.items ≡ replicate l.counter (down_link 0)
