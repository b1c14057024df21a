use Rattle.std.proofs.Common.{◌≡◌, true, rules}
use Rattle.mc_proxy.specs.SessionState.{link_at}
use Rattle.mc_stream.specs.declared.outcomes.Pumped.TheVariants.{Again}
use Rattle.mc_proxy_pump.proofs.LinkLemmas.{link_pumps_none, link_pumps_then}
use Rattle.mc_proxy_pump.proofs.links.pump_link.Goals as goal

pub loop-init : goal.loop-init
loop-init g c =
    let up : (link_at c.args.proxy.now.links c.args.server).up ≡ true = search rules in
    link_pumps_none c.args.server c.args.proxy.now _ _ c.args.woken.now.items up

pub returns-in-Err-clause-pumps : goal.returns-in-Err-clause-pumps
returns-in-Err-clause-pumps g c = λ up.
    link_pumps_then c.args.server c.in-Err.pump c.args.proxy.now c.loop.proxy c.round.new.proxy (g.R.Read.remaining c.args.reader.now) (g.R.Read.remaining c.loop.reader) (g.R.Read.remaining c.round.new.reader)
    (g.W.Write.contents c.args.writer.now) (g.W.Write.contents c.loop.writer) (g.W.Write.contents c.round.new.writer) c.args.woken.now.items c.loop.woken.items c.round.new.woken.items c.loop.invariant c.in-Err.ensures

pub loop-preserved : goal.loop-preserved
loop-preserved g c =
    link_pumps_then c.args.server Again c.args.proxy.now c.loop.proxy c.round.new.proxy (g.R.Read.remaining c.args.reader.now) (g.R.Read.remaining c.loop.reader) (g.R.Read.remaining c.round.new.reader)
    (g.W.Write.contents c.args.writer.now) (g.W.Write.contents c.loop.writer) (g.W.Write.contents c.round.new.writer) c.args.woken.now.items c.loop.woken.items c.round.new.woken.items c.loop.invariant c.in_default.ensures
