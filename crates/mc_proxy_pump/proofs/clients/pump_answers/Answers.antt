use Rattle.std.proofs.Common.{rules}
use Rattle.mc_proxy.specs.ProxyState.{session_at}
use Rattle.mc_stream.specs.declared.outcomes.Pumped.TheVariants.{Again}
use Rattle.mc_proxy_pump.specs.Tallies.{counts_of}
use Rattle.mc_proxy_pump.specs.declared.limits.TheConstants.{QUANTUM}
use Rattle.mc_proxy_pump.proofs.PendingLemmas.{answered, pending_is_open}
use Rattle.mc_proxy_pump.proofs.PumpLemmas.{pumps_none, pumps_then, pumps_turns}
use Rattle.mc_proxy_pump.proofs.clients.pump_answers.Goals as goal

pub put_out-requires : goal.put_out-requires
put_out-requires g c = record { is_open = pending_is_open (session_at c.args.proxy.now c.args.session) (search rules) }

pub stop-pump-requires : goal.stop-pump-requires
stop-pump-requires g c = c.in-Err.ensures.calls.still_open

pub returns-then-not-has_pending-clause-pumps : goal.returns-then-not-has_pending-clause-pumps
returns-then-not-has_pending-clause-pumps g c = λ unread ended there.
    (QUANTUM, pumps_none c.args.session c.args.proxy.now unread (g.W.Write.contents c.args.writer.now) ended (c.args.tally.now.missed, QUANTUM) there)

pub returns-in-Err-clause-pumps : goal.returns-in-Err-clause-pumps
returns-in-Err-clause-pumps g c = λ unread ended there. (
  c.stop-pump.new.tally.left,
  pumps_then c.args.session c.stop-pump.result c.args.proxy.now c.put_out.new.proxy c.stop-pump.new.proxy unread unread unread
      (g.W.Write.contents c.args.writer.now) (g.W.Write.contents c.args.writer.now) (g.W.Write.contents c.stop-pump.new.writer) ended ended ended
      (c.args.tally.now.missed, QUANTUM) (counts_of c.put_out.new.tally) (counts_of c.stop-pump.new.tally)
      (pumps_turns c.args.session Again c.args.proxy.now c.put_out.new.proxy unread (g.W.Write.contents c.args.writer.now) ended (c.args.tally.now.missed, QUANTUM) (counts_of c.put_out.new.tally) c.in-Err.ensures.calls tt)
      (c.stop-pump.ensures.pumps unread ended),
)

pub returns-clause-pumps : goal.returns-clause-pumps
returns-clause-pumps g c = λ unread ended there. (
  c.send.new.tally.left,
  answered c.args.session c.send.result c.args.proxy.now c.put_out.new.proxy c.send.new.proxy unread (g.W.Write.contents c.args.writer.now) (g.W.Write.contents c.send.new.writer) ended
      (c.args.tally.now.missed, QUANTUM) (counts_of c.put_out.new.tally) (counts_of c.send.new.tally) c.in_default.ensures.calls c.send.ensures.sends,
)
