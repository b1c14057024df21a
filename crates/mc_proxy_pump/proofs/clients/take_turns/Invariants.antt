use Rattle.mc_proxy.specs.ProxyState.{session_at}
use Rattle.mc_proxy_pump.specs.Rounds.{TakesTurns, work_of}
use Rattle.mc_proxy_pump.specs.Tallies.{counts_of}
use Rattle.mc_proxy_pump.proofs.clients.take_turns.Given as goal

-- the turns so far
abbrev pub invariant-loop-tally : goal.invariant-loop-tally
invariant-loop-tally l = TakesTurns l.session l.fn.proxy l.proxy (counts_of l.fn.tally) (counts_of l.tally)

-- each turn lessens the work
abbrev pub decreases-loop-tally : goal.decreases-loop-tally
decreases-loop-tally l = work_of (session_at l.proxy l.session)
