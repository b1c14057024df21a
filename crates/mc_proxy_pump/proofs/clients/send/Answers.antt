use Rattle.std.proofs.Common.{◌≡◌, rules, refl, sym, subst, Bool, false, Result, Ok, Err}
use Rattle.mc_stream.specs.declared.outcomes.Pumped.{Pumped}
use Rattle.mc_stream.proofs.SideLemmas.{write_stops, wrote_none}
use Rattle.mc_proxy_pump.specs.Rounds.{Sends}
use Rattle.mc_proxy_pump.proofs.RoundLemmas.{sends_still, sends_some}
use Rattle.mc_proxy_pump.specs.Tallies.{counts_of}
use Rattle.mc_proxy_pump.proofs.clients.send.Goals as goal

pub returns-in_err-count-clause-sends : goal.returns-in_err-count-clause-sends
returns-in_err-count-clause-sends g c =
    let same : c.from_residual.result ≡ Err c.in_err-count.field-0.0 = search rules in
    let P : Result Bool Pumped → Type 0 = λ side. Sends c.args.session side c.args.proxy.now c.args.proxy.now (g.W.Write.contents c.args.writer.now) (g.W.Write.contents c.write_once.new.writer) (counts_of c.args.tally.now) (counts_of c.args.tally.now) in
    subst P (sym same) (sends_still c.args.session (Err c.in_err-count.field-0.0) c.args.proxy.now _ _ (counts_of c.args.tally.now) c.requires (write_stops c.in_err-count.field-0.0 c.output.result.now _ _ (c.args.proxy.now ≡ c.args.proxy.now) c.in_err-count.ensures))

pub returns-then-count-eq0-clause-sends : goal.returns-then-count-eq0-clause-sends
returns-then-count-eq0-clause-sends g c =
    sends_still c.args.session (Ok false) c.args.proxy.now _ _ (counts_of c.args.tally.now) c.requires (wrote_none c.in_ok-count.count c.output.result.now _ _ c.if-count-eq0.true c.in_ok-count.ensures, refl)

pub returns-clause-sends : goal.returns-clause-sends
returns-clause-sends g c =
    sends_some c.args.session c.in_ok-count.count c.output.result.now c.args.proxy.now c.taken_out.new.self _ _ (counts_of c.args.tally.now) c.requires c.output.ensures c.in_ok-count.ensures.0 c.taken_out.ensures c.in_ok-count.ensures.1
