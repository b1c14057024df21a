use Rattle.std.proofs.Common.{◌≡◌, true, [], length}
use Rattle.mc_proxy.specs.SessionState.{link_at}
use Rattle.mc_proxy_pump.specs.LinkCalls.{LinkStretch}
use Rattle.mc_proxy_pump.proofs.links.take_replies.Given as goal

-- the turns so far, and the link is up
abbrev pub invariant-loop : goal.invariant-loop
invariant-loop l = LinkStretch l.server l.fn.proxy l.proxy [] [] l.fn.woken.items l.woken.items × ((link_at l.proxy.links l.server).up ≡ true)

-- each reply is one fewer that is pending
abbrev pub decreases-loop : goal.decreases-loop
decreases-loop l = length (link_at l.proxy.links l.server).waiting
