use Rattle.std.proofs.Common.{[]}
use Rattle.mc_proxy_pump.proofs.RoundLemmas.{early_rested}
use Rattle.mc_proxy_pump.proofs.StretchLemmas.{stretch_then}
use Rattle.mc_proxy_pump.specs.Tallies.{counts_of}
use Rattle.mc_proxy_pump.proofs.clients.advance.Goals as goal

pub returns-in_err-stop-clause-calls : goal.returns-in_err-stop-clause-calls
returns-in_err-stop-clause-calls c =
    stretch_then c.args.session c.args.proxy.now c.loop-stop.proxy c.take_turns.new.proxy [] [] [] [] (counts_of c.args.tally.now) (counts_of c.loop-stop.tally) (counts_of c.take_turns.new.tally)
    c.loop-stop.invariant c.in_err-stop.ensures.turns.stretch

pub returns-in_err-put_out-clause-calls : goal.returns-in_err-put_out-clause-calls
returns-in_err-put_out-clause-calls c =
    stretch_then c.args.session c.args.proxy.now c.loop-stop.proxy c.put_out.new.proxy [] [] [] [] (counts_of c.args.tally.now) (counts_of c.loop-stop.tally) (counts_of c.put_out.new.tally) c.loop-stop.invariant
    (stretch_then c.args.session c.loop-stop.proxy c.take_turns.new.proxy c.put_out.new.proxy [] [] [] [] (counts_of c.loop-stop.tally) (counts_of c.take_turns.new.tally) (counts_of c.put_out.new.tally)
    c.in_ok-stop.ensures.turns.stretch c.in_err-put_out.ensures.calls)

pub returns-then-not-branch-clause-calls : goal.returns-then-not-branch-clause-calls
returns-then-not-branch-clause-calls c =
    stretch_then c.args.session c.args.proxy.now c.loop-stop.proxy c.put_out.new.proxy [] [] [] [] (counts_of c.args.tally.now) (counts_of c.loop-stop.tally) (counts_of c.put_out.new.tally) c.loop-stop.invariant
    (stretch_then c.args.session c.loop-stop.proxy c.take_turns.new.proxy c.put_out.new.proxy [] [] [] [] (counts_of c.loop-stop.tally) (counts_of c.take_turns.new.tally) (counts_of c.put_out.new.tally)
    c.in_ok-stop.ensures.turns.stretch c.in_ok-put_out.ensures.calls)

pub loop-stop-preserved : goal.loop-stop-preserved
loop-stop-preserved c =
    stretch_then c.args.session c.args.proxy.now c.loop-stop.proxy c.put_out.new.proxy [] [] [] [] (counts_of c.args.tally.now) (counts_of c.loop-stop.tally) (counts_of c.put_out.new.tally) c.loop-stop.invariant
    (stretch_then c.args.session c.loop-stop.proxy c.take_turns.new.proxy c.put_out.new.proxy [] [] [] [] (counts_of c.loop-stop.tally) (counts_of c.take_turns.new.tally) (counts_of c.put_out.new.tally)
    c.in_ok-stop.ensures.turns.stretch c.in_ok-put_out.ensures.calls)

pub returns-then-not-branch-clause-early : goal.returns-then-not-branch-clause-early
returns-then-not-branch-clause-early c =
    early_rested c.in_ok-put_out.field-0 c.args.session c.take_turns.new.tally.left c.put_out.new.tally.left c.take_turns.new.proxy c.put_out.new.proxy
    c.in_ok-put_out.ensures.how c.if-not-branch.true (c.in_ok-put_out.ensures.unspent c.if-not-branch.true) c.in_ok-stop.ensures.early
