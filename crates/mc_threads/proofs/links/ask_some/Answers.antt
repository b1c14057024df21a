use Rattle.mc_threads.proofs.TalkLemmas.{talks_turned}
use Rattle.mc_threads.proofs.links.ask_some.Goals as goal

pub loop-preserved : goal.loop-preserved
loop-preserved c = λ ring clients texts outs went came h.
    talks_turned ring clients texts outs went came c.args.client c.in_ok-turn.turn c.loop.proxy c.turn.new.self (c.loop.invariant ring clients texts outs went came h) c.in_ok-turn.ensures.turn

pub returns-then-ne : goal.returns-then-ne
returns-then-ne c = λ ring clients texts outs went came h.
    talks_turned ring clients texts outs went came c.args.client c.in_ok-turn.turn c.loop.proxy c.turn.new.self (c.loop.invariant ring clients texts outs went came h) c.in_ok-turn.ensures.turn
