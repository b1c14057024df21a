use Rattle.std.proofs.Common.{◌≡◌, ◌++◌, drop}
use Rattle.mc_proxy.specs.SessionState.{link_at}
use Rattle.mc_world.specs.WorldState.{proxy_in}
use Rattle.mc_world.proofs.SiteEvents.TagLemmas.{tags_in}
use Rattle.mc_world.proofs.stale_connections.tags_from.Given as goal

-- those so far and the remaining ones are all from the first on
abbrev pub invariant-loop-number : goal.invariant-loop-number
invariant-loop-number l = l.tags.items ++ drop l.number (tags_in (link_at (proxy_in l.proxies l.proxy).links l.place).waiting) ≡ drop l.fn.first (tags_in (link_at (proxy_in l.proxies l.proxy).links l.place).waiting)
