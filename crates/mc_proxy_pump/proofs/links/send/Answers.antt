use Rattle.std.proofs.Common.{◌≡◌, rules, refl, sym, subst, Bool, false, Result, Ok, Err}
use Rattle.mc_stream.specs.declared.outcomes.Pumped.{Pumped}
use Rattle.mc_stream.proofs.SideLemmas.{write_stops, wrote_none}
use Rattle.mc_proxy_pump.specs.LinkRounds.{SendsLink}
use Rattle.mc_proxy_pump.proofs.LinkLemmas.{link_sent, link_unsent}
use Rattle.mc_proxy_pump.proofs.links.send.Goals as goal

pub returns-in_err-count : goal.returns-in_err-count
returns-in_err-count g c =
    let same : c.from_residual.result ≡ Err c.in_err-count.field-0.0 = search rules in
    let P : Result Bool Pumped → Type 0 = λ side. SendsLink c.args.server side c.args.proxy.now c.args.proxy.now (g.W.Write.contents c.args.writer.now) (g.W.Write.contents c.write_once.new.writer) in
    subst P (sym same) (link_unsent c.args.server (Err c.in_err-count.field-0.0) c.args.proxy.now _ _ c.requires (write_stops c.in_err-count.field-0.0 c.link_output.result.now _ _ (c.args.proxy.now ≡ c.args.proxy.now) c.in_err-count.ensures))

pub returns-then-count-eq0 : goal.returns-then-count-eq0
returns-then-count-eq0 g c =
    link_unsent c.args.server (Ok false) c.args.proxy.now _ _ c.requires (wrote_none c.in_ok-count.count c.link_output.result.now _ _ c.if-count-eq0.true c.in_ok-count.ensures, refl)

pub returns : goal.returns
returns g c =
    link_sent c.args.server c.in_ok-count.count c.link_output.result.now c.args.proxy.now c.link_taken_out.new.self _ _ c.requires c.link_output.ensures c.in_ok-count.ensures.0 c.link_taken_out.ensures c.in_ok-count.ensures.1
