use Rattle.std.proofs.Common.{[]}
use Rattle.mc_proxy.specs.ProxyState.{session_at}
use Rattle.mc_proxy_pump.specs.Calls.{SessionStretch}
use Rattle.mc_proxy_pump.specs.Rounds.{work_of}
use Rattle.mc_proxy_pump.specs.Tallies.{counts_of}
use Rattle.mc_proxy_pump.proofs.clients.advance.Given as goal

-- what was taken, emitted and counted so far
abbrev pub invariant-loop-stop : goal.invariant-loop-stop
invariant-loop-stop l = SessionStretch l.session l.fn.proxy l.proxy [] [] (counts_of l.fn.tally) (counts_of l.tally)

-- each answer lessens the work
abbrev pub decreases-loop-stop : goal.decreases-loop-stop
decreases-loop-stop l = work_of (session_at l.proxy l.session)
