use Rattle.std.proofs.Common.{◌≡◌, rules, sym, subst, Result, Ok, Err}
use Rattle.mc_proxy.specs.SessionState.{link_at}
use Rattle.mc_stream.specs.declared.outcomes.Pumped.{Pumped}
use Rattle.mc_stream.specs.declared.outcomes.Pumped.TheVariants.{Again, Blocked, Done}
use Rattle.mc_proxy_pump.specs.Links.{LeavesLink, PumpsLink}
use Rattle.mc_stream.specs.Sides.{pump_of}
use Rattle.mc_proxy_pump.proofs.LinkLemmas.{absurd_done, link_pumps_sent, link_pumps_then, link_pumps_unheard, link_pumps_unsent, link_round}
use Rattle.mc_proxy_pump.proofs.links.round.Goals as goal

pub returns-in_err-sent : goal.returns-in_err-sent
returns-in_err-sent g c =
    let same : c.from_residual.result ≡ Err c.in_err-sent.field-0.0 = search rules in
    let P : Result (Unit {0}) Pumped → Type 0 = λ r. PumpsLink c.args.server (pump_of r) c.args.proxy.now c.send.new.proxy (g.R.Read.remaining c.args.reader.now) (g.R.Read.remaining c.args.reader.now) (g.W.Write.contents c.args.writer.now) (g.W.Write.contents c.send.new.writer) c.args.woken.now.items c.args.woken.now.items in
    subst P (sym same) (link_pumps_unsent c.args.server c.in_err-sent.field-0.0 c.args.proxy.now c.send.new.proxy (g.R.Read.remaining c.args.reader.now) _ _ c.args.woken.now.items c.in_err-sent.ensures)

pub returns-in_err-came : goal.returns-in_err-came
returns-in_err-came g c =
    let same : c.from_residual-in_err-came.result ≡ Err c.in_err-came.field-0.0 = search rules in
    let P : Result (Unit {0}) Pumped → Type 0 = λ r. PumpsLink c.args.server (pump_of r) c.args.proxy.now c.receive.new.proxy (g.R.Read.remaining c.args.reader.now) (g.R.Read.remaining c.receive.new.reader) (g.W.Write.contents c.args.writer.now) (g.W.Write.contents c.send.new.writer) c.args.woken.now.items c.args.woken.now.items in
    subst P (sym same) (link_pumps_then c.args.server c.in_err-came.field-0.0 c.args.proxy.now c.send.new.proxy c.receive.new.proxy _ _ _ _ _ _ c.args.woken.now.items c.args.woken.now.items c.args.woken.now.items
    (link_pumps_sent c.args.server c.in_ok-sent.sent c.args.proxy.now c.send.new.proxy (g.R.Read.remaining c.args.reader.now) (g.W.Write.contents c.args.writer.now) (g.W.Write.contents c.send.new.writer) c.args.woken.now.items c.in_ok-sent.ensures)
    (link_pumps_unheard c.args.server c.in_err-came.field-0.0 c.send.new.proxy c.receive.new.proxy (g.R.Read.remaining c.args.reader.now) (g.R.Read.remaining c.receive.new.reader) (g.W.Write.contents c.send.new.writer) c.receive.new.ended c.args.woken.now.items c.in_err-came.ensures))

pub returns-in_err-take_replies : goal.returns-in_err-take_replies
returns-in_err-take_replies g c =
    let same : c.from_residual-in_err-take_replies.result ≡ Err c.in_err-take_replies.field-0.0 = search rules in
    let P : Result (Unit {0}) Pumped → Type 0 = λ r. PumpsLink c.args.server (pump_of r) c.args.proxy.now c.take_replies.new.proxy (g.R.Read.remaining c.args.reader.now) (g.R.Read.remaining c.receive.new.reader) (g.W.Write.contents c.args.writer.now) (g.W.Write.contents c.send.new.writer) c.args.woken.now.items c.take_replies.new.woken.items in
    let Q : Pumped → Type 0 = λ pump. LeavesLink pump (link_at c.take_replies.new.proxy.links c.args.server) in
    subst P (sym same) (
    link_round c.args.server c.in_err-take_replies.field-0.0 c.in_ok-sent.sent c.in_ok-came.came (Err c.in_err-take_replies.field-0.0) c.args.proxy.now c.send.new.proxy c.receive.new.proxy c.take_replies.new.proxy (g.R.Read.remaining c.args.reader.now) (g.R.Read.remaining c.receive.new.reader) (g.W.Write.contents c.args.writer.now) (g.W.Write.contents c.send.new.writer) c.receive.new.ended c.args.woken.now.items c.take_replies.new.woken.items
    c.in_ok-sent.ensures c.in_ok-came.ensures c.in_err-take_replies.ensures (λ e. absurd_done c.in_err-take_replies.field-0.0 c.in_err-take_replies.ensures.how e) (subst Q (sym c.in_err-take_replies.ensures.how) tt))

pub returns-then-ended : goal.returns-then-ended
returns-then-ended g c =
    link_round c.args.server Done c.in_ok-sent.sent c.in_ok-came.came (Ok c.in_ok-take_replies.field-0) c.args.proxy.now c.send.new.proxy c.receive.new.proxy c.take_replies.new.proxy (g.R.Read.remaining c.args.reader.now) (g.R.Read.remaining c.receive.new.reader) (g.W.Write.contents c.args.writer.now) (g.W.Write.contents c.send.new.writer) c.receive.new.ended c.args.woken.now.items c.take_replies.new.woken.items
    c.in_ok-sent.ensures c.in_ok-came.ensures c.in_ok-take_replies.ensures (λ e. c.if-ended.true) c.in_ok-take_replies.ensures.how

pub returns-then-came : goal.returns-then-came
returns-then-came g c =
    link_round c.args.server Again c.in_ok-sent.sent c.in_ok-came.came (Ok c.in_ok-take_replies.field-0) c.args.proxy.now c.send.new.proxy c.receive.new.proxy c.take_replies.new.proxy (g.R.Read.remaining c.args.reader.now) (g.R.Read.remaining c.receive.new.reader) (g.W.Write.contents c.args.writer.now) (g.W.Write.contents c.send.new.writer) c.receive.new.ended c.args.woken.now.items c.take_replies.new.woken.items
    c.in_ok-sent.ensures c.in_ok-came.ensures c.in_ok-take_replies.ensures (λ e. absurd cc) c.in_ok-take_replies.ensures.how.0

pub returns : goal.returns
returns g c =
    link_round c.args.server Blocked c.in_ok-sent.sent c.in_ok-came.came (Ok c.in_ok-take_replies.field-0) c.args.proxy.now c.send.new.proxy c.receive.new.proxy c.take_replies.new.proxy (g.R.Read.remaining c.args.reader.now) (g.R.Read.remaining c.receive.new.reader) (g.W.Write.contents c.args.writer.now) (g.W.Write.contents c.send.new.writer) c.receive.new.ended c.args.woken.now.items c.take_replies.new.woken.items
    c.in_ok-sent.ensures c.in_ok-came.ensures c.in_ok-take_replies.ensures (λ e. absurd cc) c.in_ok-take_replies.ensures.how
