use Rattle.std.proofs.Common.{◌≡◌, rules, sym, subst, Result, Err}
use Rattle.mc_server.specs.ServerState.{ServerState, connection_at}
use Rattle.mc_pump.specs.Pumps.{IsStuck}
use Rattle.mc_stream.specs.Sides.{pump_of}
use Rattle.mc_stream.specs.declared.outcomes.Pumped.{Pumped}
use Rattle.mc_stream.specs.declared.outcomes.Pumped.TheVariants.{Again, Blocked}
use Rattle.mc_pump.proofs.PumpLemmas.{pumps_heard, pumps_unheard}
use Rattle.mc_stream.proofs.SideLemmas.{came_false}
use Rattle.mc_pump.proofs.RoundLemmas.{unheard}
use Rattle.mc_pump.specs.Counts.{counted_by}
use Rattle.mc_pump.specs.Rounds.{PumpsPart}
use Rattle.mc_pump.proofs.rounds.read_or_block.Goals as goal

pub returns-in_err-moved : goal.returns-in_err-moved
returns-in_err-moved g c = λ moment written.
    let same : c.from_residual.result ≡ Err c.in_err-moved.field-0.0 = search rules in
    let P : Result (Unit {0}) Pumped → Type 0 = λ r. PumpsPart c.args.number moment (pump_of r) c.args.server.now c.receive.new.server (g.R.Read.remaining c.args.reader.now) (g.R.Read.remaining c.receive.new.reader) written written c.args.ended.now c.receive.new.ended (counted_by c.args.watch.now) (counted_by c.receive.new.watch) in
    subst P (sym same) (pumps_unheard c.args.number moment (counted_by c.args.watch.now) (counted_by c.receive.new.watch) c.in_err-moved.field-0.0 c.args.server.now c.receive.new.server _ _ written c.args.ended.now c.receive.new.ended c.requires.goes_on (c.in_err-moved.ensures moment))

pub returns-then-moved : goal.returns-then-moved
returns-then-moved g c = λ moment written.
    pumps_heard c.args.number moment (counted_by c.args.watch.now) (counted_by c.receive.new.watch) c.in_ok-moved.moved Again c.args.server.now c.receive.new.server _ _ written c.args.ended.now c.receive.new.ended c.requires.goes_on (c.in_ok-moved.ensures moment) tt

pub returns : goal.returns
returns g c = λ moment written.
    let received = c.in_ok-moved.ensures moment in
    let still = came_false c.in_ok-moved.moved (g.R.Read.remaining c.args.reader.now) (g.R.Read.remaining c.receive.new.reader) c.receive.new.ended received.came (c.receive.new.server ≡ c.args.server.now) c.if-moved.false received.how in
    let P : ServerState → Type 0 = λ s. IsStuck c.receive.new.ended (connection_at s c.args.number) in
    pumps_heard c.args.number moment (counted_by c.args.watch.now) (counted_by c.receive.new.watch) c.in_ok-moved.moved Blocked c.args.server.now c.receive.new.server _ _ written c.args.ended.now c.receive.new.ended c.requires.goes_on received
    (subst P (sym still.1) (unheard c.receive.new.ended (connection_at c.args.server.now c.args.number) c.requires.none_waits c.requires.is_read still.0))
