use Rattle.mc_threads.proofs.TalkLemmas.{talks_emitted}
use Rattle.mc_threads.proofs.links.answer_some.Goals as goal

pub loop-preserved : goal.loop-preserved
loop-preserved c = λ ring clients texts outs went came h.
    talks_emitted ring clients texts outs went came c.args.client c.in_ok-emit.emit c.loop.proxy c.emit.new.self (c.loop.invariant ring clients texts outs went came h) c.in_ok-emit.ensures.emit

pub returns-then-ne : goal.returns-then-ne
returns-then-ne c = λ ring clients texts outs went came h.
    talks_emitted ring clients texts outs went came c.args.client c.in_ok-emit.emit c.loop.proxy c.emit.new.self (c.loop.invariant ring clients texts outs went came h) c.in_ok-emit.ensures.emit
