use Rattle.mc_threads.specs.Talks.{StillTalks}
use Rattle.mc_threads.proofs.links.ask_some.Given as goal

abbrev pub invariant-loop : goal.invariant-loop
invariant-loop l = StillTalks l.initial.proxy l.proxy
