use Rattle.mc_stream.specs.declared.outcomes.Pumped.TheVariants.{Again}
use Rattle.mc_proxy_pump.specs.Tallies.{counts_of}
use Rattle.mc_proxy_pump.proofs.PumpLemmas.{pumps_none, pumps_then}
use Rattle.mc_proxy_pump.proofs.clients.rounds.Goals as goal

pub loop-init : goal.loop-init
loop-init g c =
    pumps_none c.args.session c.args.proxy.now (g.R.Read.remaining c.args.reader.now) (g.W.Write.contents c.args.writer.now) c.args.ended.now (counts_of c.args.tally.now) c.requires.is_open

pub round-requires-clause-is_open : goal.round-requires-clause-is_open
round-requires-clause-is_open g c = c.loop.invariant.stretch.still_open

pub loop-preserved : goal.loop-preserved
loop-preserved g c =
    pumps_then c.args.session Again c.args.proxy.now c.loop.proxy c.round.new.proxy (g.R.Read.remaining c.args.reader.now) (g.R.Read.remaining c.loop.reader) (g.R.Read.remaining c.round.new.reader)
    (g.W.Write.contents c.args.writer.now) (g.W.Write.contents c.loop.writer) (g.W.Write.contents c.round.new.writer) c.args.ended.now c.loop.ended c.round.new.ended
    (counts_of c.args.tally.now) (counts_of c.loop.tally) (counts_of c.round.new.tally) c.loop.invariant c.in_default.ensures

pub returns-in-Err : goal.returns-in-Err
returns-in-Err g c =
    pumps_then c.args.session c.in-Err.pump c.args.proxy.now c.loop.proxy c.round.new.proxy (g.R.Read.remaining c.args.reader.now) (g.R.Read.remaining c.loop.reader) (g.R.Read.remaining c.round.new.reader)
    (g.W.Write.contents c.args.writer.now) (g.W.Write.contents c.loop.writer) (g.W.Write.contents c.round.new.writer) c.args.ended.now c.loop.ended c.round.new.ended
    (counts_of c.args.tally.now) (counts_of c.loop.tally) (counts_of c.round.new.tally) c.loop.invariant c.in-Err.ensures
