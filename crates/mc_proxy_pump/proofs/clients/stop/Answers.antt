use Rattle.mc_stream.specs.declared.outcomes.Pumped.TheVariants.{Failed}
use Rattle.mc_proxy_pump.specs.Tallies.{counts_of}
use Rattle.mc_proxy_pump.proofs.PumpLemmas.{pumps_turns}
use Rattle.mc_proxy_pump.proofs.StretchLemmas.{stretch_none}
use Rattle.mc_proxy_pump.proofs.clients.stop.Goals as goal

pub returns-else-eq-clause-pumps : goal.returns-else-eq-clause-pumps
returns-else-eq-clause-pumps g c = λ unread ended.
    pumps_turns c.args.session Failed c.args.proxy.now c.args.proxy.now unread (g.W.Write.contents c.args.writer.now) ended (counts_of c.args.tally.now) (counts_of c.args.tally.now)
    (stretch_none c.args.session c.args.proxy.now (counts_of c.args.tally.now) c.requires) tt
