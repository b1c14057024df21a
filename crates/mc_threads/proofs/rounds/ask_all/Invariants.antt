use Rattle.mc_threads.specs.Talks.{StillTalks}
use Rattle.mc_threads.proofs.rounds.ask_all.Given as goal

abbrev pub invariant-loop-client : goal.invariant-loop-client
invariant-loop-client l = StillTalks l.initial.proxy l.proxy
