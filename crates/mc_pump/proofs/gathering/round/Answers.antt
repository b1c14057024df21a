use Rattle.std.proofs.Common.{[], Err, ap}
use Rattle.mc_stream.specs.Sides.{pump_of}
use Rattle.mc_stream.specs.declared.outcomes.Pumped.TheVariants.{Again, Failed}
use Rattle.mc_pump.proofs.GatherLemmas.{pumps_gathered}
use Rattle.mc_pump.proofs.PumpLemmas.{pumps_then}
use Rattle.mc_pump.proofs.RoundLemmas.{stays_open}
use Rattle.mc_pump.specs.Counts.{counted_by}
use Rattle.mc_pump.proofs.gathering.round.Goals as goal

-- the writer took some of a large answer
pub returns-in-Ok-None-clause-pumps : goal.returns-in-Ok-None-clause-pumps
returns-in-Ok-None-clause-pumps g c =
    pumps_gathered c.args.number c.args.moment (counted_by c.args.watch.now) (counted_by c.gather_turns.new.watch) Again c.args.server.now c.gather_turns.new.server (g.R.Read.remaining c.args.reader.now) _ _ c.args.ended.now c.in-Ok-None.ensures.turns tt

pub returns-in-Err-clause-pumps : goal.returns-in-Err-clause-pumps
returns-in-Err-clause-pumps g c =
    rw c.in-Err.ensures.failed
    (pumps_gathered c.args.number c.args.moment (counted_by c.args.watch.now) (counted_by c.gather_turns.new.watch) Failed c.args.server.now c.gather_turns.new.server (g.R.Read.remaining c.args.reader.now) _ _ c.args.ended.now c.in-Err.ensures.turns tt)

pub carry-requires-clause-is_open : goal.carry-requires-clause-is_open
carry-requires-clause-is_open g c =
    stays_open c.args.number c.args.moment c.args.server.now c.gather_turns.new.server [] c.in-Ok-Some.ensures.turns.went c.in-Ok-Some.ensures.turns.stretch

pub returns-in-Ok-Some-clause-pumps : goal.returns-in-Ok-Some-clause-pumps
returns-in-Ok-Some-clause-pumps g c =
    pumps_then c.args.number c.args.moment (counted_by c.args.watch.now) (counted_by c.gather_turns.new.watch) (counted_by c.carry.new.watch) (pump_of c.carry.result) c.args.server.now c.gather_turns.new.server c.carry.new.server _ _ _ _ _ _ c.args.ended.now c.args.ended.now c.carry.new.ended
    (pumps_gathered c.args.number c.args.moment (counted_by c.args.watch.now) (counted_by c.gather_turns.new.watch) Again c.args.server.now c.gather_turns.new.server (g.R.Read.remaining c.args.reader.now) (g.W.Write.contents c.args.writer.now) (g.W.Write.contents c.gather_turns.new.writer) c.args.ended.now c.in-Ok-Some.ensures.turns tt)
    (c.carry.ensures c.args.moment)

pub returns-in-Err-clause-barred : goal.returns-in-Err-clause-barred
returns-in-Err-clause-barred g c = λ barred some. (ap Err c.in-Err.ensures.failed, (c.in-Err.ensures.barred barred some).1)

pub returns-in-Ok-None-clause-barred : goal.returns-in-Ok-None-clause-barred
returns-in-Ok-None-clause-barred g c = λ barred some. let clash = (c.in-Ok-None.ensures.barred barred some).0 in absurd cc

pub returns-in-Ok-Some-clause-barred : goal.returns-in-Ok-Some-clause-barred
returns-in-Ok-Some-clause-barred g c = λ barred some. let clash = (c.in-Ok-Some.ensures.barred barred some).0 in absurd cc
