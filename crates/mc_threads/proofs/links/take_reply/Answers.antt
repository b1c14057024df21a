use Rattle.mc_threads.proofs.TalkLemmas.{talks_replied}
use Rattle.mc_threads.proofs.links.take_reply.Goals as goal

pub returns-in-Took : goal.returns-in-Took
returns-in-Took c = λ ring clients texts outs went came low h.
    talks_replied ring clients texts outs went came c.args.place c.args.proxy.now c.link_turn.new.self low h (rw c.in-Took.is at c.in_ok-link_turn.ensures.turn)
