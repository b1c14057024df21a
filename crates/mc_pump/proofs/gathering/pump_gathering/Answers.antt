use Rattle.std.proofs.Common.{◌≡◌, ◌∙◌, Ok, Err, refl, arith}
use Rattle.mc_server.specs.ServerState.{connection_at}
use Rattle.mc_server.specs.declared.turns.ServerError.TheVariants.{NoConnection}
use Rattle.mc_stream.specs.declared.outcomes.Pumped.TheVariants.{Again, Failed}
use Rattle.mc_pump.proofs.PumpLemmas.{begun, pumped, pumps_none, pumps_then}
use Rattle.mc_pump.proofs.RoundLemmas.{not_none, stays_open, the_open}
use Rattle.mc_pump.specs.Counts.{counted_by}
use Rattle.mc_pump.proofs.gathering.pump_gathering.Goals as goal

pub loop-round-init : goal.loop-round-init
loop-round-init g c =
    let own = the_open (connection_at c.args.server.now c.args.number) (not_none (connection_at c.args.server.now c.args.number) (λ none. let clash : Ok c.in-Ok.field-0 ≡ Err NoConnection = c.in-Ok.ensures.no_connection.1 none in absurd cc)) in
    (pumps_none c.args.number c.args.moment (begun c.args.watch.now.no_memory c.args.watch.now.most) c.args.server.now own.0 (g.R.Read.remaining c.args.reader.now) (g.W.Write.contents c.args.writer.now) c.args.ended.now own.1, λ barred. (refl, refl, refl))

pub round-requires-clause-is_open : goal.round-requires-clause-is_open
round-requires-clause-is_open g c =
    stays_open c.args.number c.args.moment c.args.server.now c.loop-round.server c.loop-round.invariant.0.came c.loop-round.invariant.0.went c.loop-round.invariant.0.stretch

pub loop-round-preserved : goal.loop-round-preserved
loop-round-preserved g c = (
  pumps_then c.args.number c.args.moment (begun c.args.watch.now.no_memory c.args.watch.now.most) (counted_by c.loop-round.watch) (counted_by c.round.new.watch) Again c.args.server.now c.loop-round.server c.round.new.server (g.R.Read.remaining c.args.reader.now) (g.R.Read.remaining c.loop-round.reader) (g.R.Read.remaining c.round.new.reader)
      (g.W.Write.contents c.args.writer.now) (g.W.Write.contents c.loop-round.writer) (g.W.Write.contents c.round.new.writer) c.args.ended.now c.loop-round.ended c.round.new.ended c.loop-round.invariant.0 c.in_default-round.ensures.pumps,
  λ barred.
      let at = c.loop-round.invariant.1 barred in
      let clash = (c.in_default-round.ensures.barred (rw at.0 barred) (rw at.1 (omega arith))).0 in
      absurd cc,
)

pub returns-in-Err-clause-pumps : goal.returns-in-Err-clause-pumps
returns-in-Err-clause-pumps g c = λ there.
    pumped c.args.number c.args.moment c.args.watch.now.no_memory c.args.watch.now.most (counted_by c.round.new.watch) c.in-Err.pump c.args.server.now c.round.new.server _ _ _ _ c.args.ended.now c.round.new.ended
    (pumps_then c.args.number c.args.moment (begun c.args.watch.now.no_memory c.args.watch.now.most) (counted_by c.loop-round.watch) (counted_by c.round.new.watch) c.in-Err.pump c.args.server.now c.loop-round.server c.round.new.server (g.R.Read.remaining c.args.reader.now) (g.R.Read.remaining c.loop-round.reader) (g.R.Read.remaining c.round.new.reader)
    (g.W.Write.contents c.args.writer.now) (g.W.Write.contents c.loop-round.writer) (g.W.Write.contents c.round.new.writer) c.args.ended.now c.loop-round.ended c.round.new.ended c.loop-round.invariant.0 c.in-Err.ensures.pumps)

-- after the last round
pub returns-clause-pumps : goal.returns-clause-pumps
returns-clause-pumps g c = λ there.
    pumped c.args.number c.args.moment c.args.watch.now.no_memory c.args.watch.now.most (counted_by c.loop-round.watch) Again c.args.server.now c.loop-round.server _ _ _ _ c.args.ended.now c.loop-round.ended c.loop-round.invariant.0

pub returns-in-Err-clause-barred : goal.returns-in-Err-clause-barred
returns-in-Err-clause-barred g c = λ barred.
    let at = c.loop-round.invariant.1 barred in
    let ends = c.in-Err.ensures.barred (rw at.0 barred) (rw at.1 (omega arith)) in
    let failed : c.in-Err.pump ≡ Failed = cc in
    (failed, ends.1 ∙ at.0)

pub returns-clause-barred : goal.returns-clause-barred
returns-clause-barred g c = λ barred.
    let at = c.loop-round.invariant.1 barred in
    absurd (omega (arith, at.2, c.loop-round-test.false))

pub returns-in-Err-clause-unsent : goal.returns-in-Err-clause-unsent
returns-in-Err-clause-unsent g c = λ there.
    (pumps_then c.args.number c.args.moment (begun c.args.watch.now.no_memory c.args.watch.now.most) (counted_by c.loop-round.watch) (counted_by c.round.new.watch) c.in-Err.pump c.args.server.now c.loop-round.server c.round.new.server (g.R.Read.remaining c.args.reader.now) (g.R.Read.remaining c.loop-round.reader) (g.R.Read.remaining c.round.new.reader)
    (g.W.Write.contents c.args.writer.now) (g.W.Write.contents c.loop-round.writer) (g.W.Write.contents c.round.new.writer) c.args.ended.now c.loop-round.ended c.round.new.ended c.loop-round.invariant.0 c.in-Err.ensures.pumps).unsent

pub returns-clause-unsent : goal.returns-clause-unsent
returns-clause-unsent g c = λ there. c.loop-round.invariant.0.unsent
