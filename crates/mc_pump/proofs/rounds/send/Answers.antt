use Rattle.std.proofs.Common.{◌≡◌, rules, refl, sym, subst, Bool, false, Result, Ok, Err}
use Rattle.mc_pump.specs.Rounds.{Sends}
use Rattle.mc_stream.specs.declared.outcomes.Pumped.{Pumped}
use Rattle.mc_stream.proofs.SideLemmas.{write_stops, wrote_none}
use Rattle.mc_pump.proofs.RoundLemmas.{sends_still, sends_some}
use Rattle.mc_pump.specs.Counts.{counted_by}
use Rattle.mc_pump.proofs.rounds.send.Goals as goal

pub returns-in_err-count : goal.returns-in_err-count
returns-in_err-count g c = λ moment.
    let same : c.from_residual.result ≡ Err c.in_err-count.field-0.0 = search rules in
    let P : Result Bool Pumped → Type 0 = λ side. Sends c.args.number moment side c.args.server.now c.args.server.now (g.W.Write.contents c.args.writer.now) (g.W.Write.contents c.write_once.new.writer) (counted_by c.args.watch.now) (counted_by c.args.watch.now) in
    subst P (sym same) (sends_still c.args.number moment (counted_by c.args.watch.now) (Err c.in_err-count.field-0.0) c.args.server.now _ _ c.requires (write_stops c.in_err-count.field-0.0 c.output.result.now _ _ (c.args.server.now ≡ c.args.server.now) c.in_err-count.ensures))

pub returns-then-count-eq0 : goal.returns-then-count-eq0
returns-then-count-eq0 g c = λ moment.
    sends_still c.args.number moment (counted_by c.args.watch.now) (Ok false) c.args.server.now _ _ c.requires (wrote_none c.in_ok-count.count c.output.result.now _ _ c.if-count-eq0.true c.in_ok-count.ensures, refl)

pub returns : goal.returns
returns g c = λ moment.
    sends_some c.args.number moment (counted_by c.args.watch.now) c.in_ok-count.count c.output.result.now c.args.server.now c.taken_out.new.self _ _ c.requires c.output.ensures c.taken_out.ensures c.in_ok-count.ensures.1
