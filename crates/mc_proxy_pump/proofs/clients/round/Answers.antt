use Rattle.std.proofs.Common.{◌≡◌, ◌∙◌, ap, rules, sym, subst, Result, Err}
use Rattle.mc_proxy.specs.ProxyState.{output_of, session_at}
use Rattle.mc_stream.specs.declared.outcomes.Pumped.{Pumped}
use Rattle.mc_stream.specs.declared.outcomes.Pumped.TheVariants.{Again, Blocked, Done}
use Rattle.mc_stream.proofs.SideLemmas.{went_false}
use Rattle.mc_proxy_pump.specs.Clients.{PumpsClient}
use Rattle.mc_stream.specs.Sides.{pump_of}
use Rattle.mc_proxy_pump.proofs.PumpLemmas.{pumps_then, pumps_turns, pumps_unsent, stopped}
use Rattle.mc_proxy_pump.proofs.RoundLemmas.{early_sent, over, read_on, stuck, unmarked}
use Rattle.mc_proxy_pump.specs.Tallies.{Counts, counts_of}
use Rattle.mc_proxy_pump.proofs.clients.round.Goals as goal

pub stop-requires : goal.stop-requires
stop-requires g c = c.in-Err.ensures.calls.still_open

pub returns-in-Err : goal.returns-in-Err
returns-in-Err g c =
    pumps_then c.args.session c.stop.result c.args.proxy.now c.advance.new.proxy c.stop.new.proxy _ _ _ _ _ _ c.args.ended.now c.args.ended.now c.args.ended.now (counts_of c.args.tally.now) (counts_of c.advance.new.tally) (counts_of c.stop.new.tally)
    (pumps_turns c.args.session Again c.args.proxy.now c.advance.new.proxy (g.R.Read.remaining c.args.reader.now) (g.W.Write.contents c.args.writer.now) c.args.ended.now (counts_of c.args.tally.now) (counts_of c.advance.new.tally) c.in-Err.ensures.calls tt)
    (c.stop.ensures.pumps (g.R.Read.remaining c.args.reader.now) c.args.ended.now)

pub send-requires : goal.send-requires
send-requires g c = c.in-Ok.ensures.calls.still_open

pub returns-in_err-moved : goal.returns-in_err-moved
returns-in_err-moved g c =
    let same : c.from_residual.result ≡ Err c.in_err-moved.field-0.0 = search rules in
    let P : Result (Unit {0}) Pumped → Type 0 = λ r. PumpsClient c.args.session (pump_of r) c.args.proxy.now c.send.new.proxy (g.R.Read.remaining c.args.reader.now) (g.R.Read.remaining c.args.reader.now)
    (g.W.Write.contents c.args.writer.now) (g.W.Write.contents c.send.new.writer) c.args.ended.now c.args.ended.now (counts_of c.args.tally.now) (counts_of c.send.new.tally) in
    subst P (sym same) (pumps_then c.args.session c.in_err-moved.field-0.0 c.args.proxy.now c.advance.new.proxy c.send.new.proxy _ _ _ _ _ _ c.args.ended.now c.args.ended.now c.args.ended.now (counts_of c.args.tally.now) (counts_of c.advance.new.tally) (counts_of c.send.new.tally)
    (pumps_turns c.args.session Again c.args.proxy.now c.advance.new.proxy (g.R.Read.remaining c.args.reader.now) (g.W.Write.contents c.args.writer.now) c.args.ended.now (counts_of c.args.tally.now) (counts_of c.advance.new.tally) c.in-Ok.ensures.calls tt)
    (pumps_unsent c.args.session c.in_err-moved.field-0.0 c.advance.new.proxy c.send.new.proxy (g.R.Read.remaining c.args.reader.now) _ _ c.args.ended.now (counts_of c.advance.new.tally) (counts_of c.send.new.tally) c.in_err-moved.ensures.sends))

pub returns-then-is_over : goal.returns-then-is_over
returns-then-is_over g c =
    let sent = c.in_ok-moved.ensures.sends in
    stopped c.args.session c.in_ok-moved.moved Done c.args.proxy.now c.advance.new.proxy c.send.new.proxy (g.R.Read.remaining c.args.reader.now) _ _ c.args.ended.now (counts_of c.args.tally.now) (counts_of c.advance.new.tally) (counts_of c.send.new.tally) c.in-Ok.ensures.calls sent (
      over c.in-Ok.turn c.args.ended.now _ c.advance.new.proxy _ _ c.in-Ok.ensures.stop sent.same c.is_over.ensures c.if-is_over.true,
      early_sent c.advance.new.tally.left c.send.new.tally.left _ _ (ap (λ (counts : Counts). counts.1) sent.uncounted) sent.same c.in-Ok.ensures.early,
    )

pub returns-then-is_read : goal.returns-then-is_read
returns-then-is_read g c =
    let before = stopped c.args.session c.in_ok-moved.moved Again c.args.proxy.now c.advance.new.proxy c.send.new.proxy (g.R.Read.remaining c.args.reader.now) (g.W.Write.contents c.args.writer.now) (g.W.Write.contents c.send.new.writer) c.args.ended.now (counts_of c.args.tally.now) (counts_of c.advance.new.tally) (counts_of c.send.new.tally) c.in-Ok.ensures.calls c.in_ok-moved.ensures.sends tt in
    pumps_then c.args.session (pump_of c.read_or_block.result) c.args.proxy.now c.send.new.proxy c.read_or_block.new.proxy _ _ _ _ _ _ c.args.ended.now c.args.ended.now c.read_or_block.new.ended (counts_of c.args.tally.now) (counts_of c.send.new.tally) (counts_of c.read_or_block.new.tally)
    before (c.read_or_block.ensures (g.W.Write.contents c.send.new.writer))

pub returns-then-len-eq0 : goal.returns-then-len-eq0
returns-then-len-eq0 g c =
    stopped c.args.session c.in_ok-moved.moved Again c.args.proxy.now c.advance.new.proxy c.send.new.proxy (g.R.Read.remaining c.args.reader.now) _ _ c.args.ended.now (counts_of c.args.tally.now) (counts_of c.advance.new.tally) (counts_of c.send.new.tally) c.in-Ok.ensures.calls c.in_ok-moved.ensures.sends tt

pub returns-then-moved-2 : goal.returns-then-moved-2
returns-then-moved-2 g c =
    stopped c.args.session c.in_ok-moved.moved Again c.args.proxy.now c.advance.new.proxy c.send.new.proxy (g.R.Read.remaining c.args.reader.now) _ _ c.args.ended.now (counts_of c.args.tally.now) (counts_of c.advance.new.tally) (counts_of c.send.new.tally) c.in-Ok.ensures.calls c.in_ok-moved.ensures.sends tt

pub read_or_block-requires-clause-none_waits : goal.read_or_block-requires-clause-none_waits
read_or_block-requires-clause-none_waits g c =
    let on = read_on c.in-Ok.turn c.args.ended.now _ _ c.advance.new.proxy _ c.in-Ok.ensures.stop c.is_read.ensures c.if-is_read.true in
    c.in_ok-moved.ensures.sends.same.waits ∙ on.0.0

pub read_or_block-requires-clause-early : goal.read_or_block-requires-clause-early
read_or_block-requires-clause-early g c =
    let sent = c.in_ok-moved.ensures.sends in
    early_sent c.advance.new.tally.left c.send.new.tally.left _ _ (ap (λ (counts : Counts). counts.1) sent.uncounted) sent.same c.in-Ok.ensures.early

pub read_or_block-requires-clause-is_read : goal.read_or_block-requires-clause-is_read
read_or_block-requires-clause-is_read g c =
    let on = read_on c.in-Ok.turn c.args.ended.now _ _ c.advance.new.proxy _ c.in-Ok.ensures.stop c.is_read.ensures c.if-is_read.true in
    c.in_ok-moved.ensures.sends.same.closed ∙ on.0.1

pub returns : goal.returns
returns g c =
    let sent = c.in_ok-moved.ensures.sends in
    let kept : c.send.new.proxy ≡ c.advance.new.proxy = went_false c.in_ok-moved.moved _ _ _ _ c.if-moved-2.false sent.how in
    let output : c.output.result.now ≡ output_of (session_at c.send.new.proxy c.args.session) = rw kept c.output.ensures in
    stopped c.args.session c.in_ok-moved.moved Blocked c.args.proxy.now c.advance.new.proxy c.send.new.proxy (g.R.Read.remaining c.args.reader.now) _ _ c.args.ended.now (counts_of c.args.tally.now) (counts_of c.advance.new.tally) (counts_of c.send.new.tally) c.in-Ok.ensures.calls sent (
      (stuck c.in-Ok.turn c.args.ended.now _ _ c.send.new.proxy (session_at c.send.new.proxy c.args.session) (rw kept c.in-Ok.ensures.stop) (rw kept c.in-Ok.ensures.answered)
          c.is_over.ensures c.if-is_over.false (sym c.is_read.ensures ∙ c.if-is_read.false) (λ none. unmarked c.output.result.now (output ∙ none))),
      early_sent c.advance.new.tally.left c.send.new.tally.left _ _ (ap (λ (counts : Counts). counts.1) sent.uncounted) sent.same c.in-Ok.ensures.early,
    )
