use Rattle.mc_threads.specs.Talks.{HasReplied}
use Rattle.mc_threads.proofs.links.take_replies.Given as goal

abbrev pub invariant-loop : goal.invariant-loop
invariant-loop l = HasReplied l.fn.place l.initial.proxy l.proxy
