use Rattle.std.proofs.Common.{◌≡◌, false, []}
use Rattle.mc_proxy.specs.ProxyState.{session_at, unanswered_of}
use Rattle.mc_proxy_pump.specs.Calls.{SessionStretch}
use Rattle.mc_proxy_pump.specs.Rounds.{HowMany}
use Rattle.mc_proxy_pump.specs.Tallies.{counts_of}
use Rattle.mc_proxy_pump.proofs.clients.put_out.Given as goal

-- what was emitted and counted so far: if nothing was, no work is spent
abbrev pub invariant-loop-session : goal.invariant-loop-session
invariant-loop-session l = SessionStretch l.session l.fn.proxy l.proxy [] [] (counts_of l.fn.tally) (counts_of l.tally) × HowMany l.answered l.session l.fn.proxy l.proxy
    × (l.answered ≡ false → l.tally.left ≡ l.fn.tally.left) × (l.tally.foreign ≡ l.fn.tally.foreign)

-- each answer is one fewer to emit
abbrev pub decreases-loop-session : goal.decreases-loop-session
decreases-loop-session l = unanswered_of (session_at l.proxy l.session)
