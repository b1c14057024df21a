use Rattle.std.proofs.Common.{◌≡◌, ◌∙◌, rules, arith, sym, subst, Result, Err, []}
use Rattle.mc_server.specs.ServerState.{connection_at}
use Rattle.mc_pump.specs.Rounds.{PumpsPart}
use Rattle.mc_stream.specs.Sides.{pump_of}
use Rattle.mc_stream.specs.declared.outcomes.Pumped.{Pumped}
use Rattle.mc_stream.specs.declared.outcomes.Pumped.TheVariants.{Again, Blocked, Done}
use Rattle.mc_pump.proofs.CountLemmas.{turns_none}
use Rattle.mc_pump.proofs.PumpLemmas.{pumps_then, pumps_unsent, stopped}
use Rattle.mc_stream.proofs.SideLemmas.{went_false}
use Rattle.mc_pump.proofs.RoundLemmas.{over, read_on, stays_open, stuck}
use Rattle.mc_pump.specs.Counts.{counted_by}
use Rattle.mc_pump.proofs.rounds.carry.Goals as goal

pub returns-in_err-moved : goal.returns-in_err-moved
returns-in_err-moved g c = λ moment.
    let same : c.from_residual.result ≡ Err c.in_err-moved.field-0.0 = search rules in
    let P : Result (Unit {0}) Pumped → Type 0 = λ r. PumpsPart c.args.number moment (pump_of r) c.args.server.now c.send.new.server (g.R.Read.remaining c.args.reader.now) (g.R.Read.remaining c.args.reader.now)
    (g.W.Write.contents c.args.writer.now) (g.W.Write.contents c.send.new.writer) c.args.ended.now c.args.ended.now (counted_by c.args.watch.now) (counted_by c.send.new.watch) in
    subst P (sym same) (pumps_unsent c.args.number moment (counted_by c.args.watch.now) (counted_by c.send.new.watch) c.in_err-moved.field-0.0 c.args.server.now c.send.new.server (g.R.Read.remaining c.args.reader.now) _ _ c.args.ended.now (c.in_err-moved.ensures moment))

pub returns-then-is_spent : goal.returns-then-is_spent
returns-then-is_spent g c = λ moment.
    let none = turns_none c.args.number moment (counted_by c.args.watch.now) c.args.server.now c.requires.is_open in
    stopped c.args.number moment (counted_by c.args.watch.now) (counted_by c.args.watch.now) (counted_by c.send.new.watch) c.in_ok-moved.moved Again c.args.server.now c.args.server.now c.send.new.server (g.R.Read.remaining c.args.reader.now) _ _ c.args.ended.now none (c.in_ok-moved.ensures moment) tt

pub read_or_block-requires-clause-is_open : goal.read_or_block-requires-clause-is_open
read_or_block-requires-clause-is_open g c =
    let sent = c.in_ok-moved.ensures 0 in
    stays_open c.args.number 0 c.args.server.now c.send.new.server [] sent.went sent.stretch

pub returns-then-is_over : goal.returns-then-is_over
returns-then-is_over g c = λ moment.
    let sent = c.in_ok-moved.ensures moment in
    let none = turns_none c.args.number moment (counted_by c.args.watch.now) c.args.server.now c.requires.is_open in
    stopped c.args.number moment (counted_by c.args.watch.now) (counted_by c.args.watch.now) (counted_by c.send.new.watch) c.in_ok-moved.moved Done c.args.server.now c.args.server.now c.send.new.server (g.R.Read.remaining c.args.reader.now) _ _ c.args.ended.now none sent
    (over c.args.stop c.args.ended.now _ _ _ c.requires.stop sent.same c.is_over.ensures c.if-is_over.true)

pub read_or_block-requires-clause-none_waits : goal.read_or_block-requires-clause-none_waits
read_or_block-requires-clause-none_waits g c =
    let on = read_on c.args.stop c.args.ended.now _ _ c.requires.stop c.is_read.ensures c.if-is_read.true in
    (c.in_ok-moved.ensures 0).same.waits ∙ on.0.0

pub read_or_block-requires-clause-below : goal.read_or_block-requires-clause-below
read_or_block-requires-clause-below g c =
    let on = read_on c.args.stop c.args.ended.now _ _ c.requires.stop c.is_read.ensures c.if-is_read.true in
    omega (arith, (c.in_ok-moved.ensures 0).same.fewer, on.0.1)

pub read_or_block-requires-clause-is_read : goal.read_or_block-requires-clause-is_read
read_or_block-requires-clause-is_read g c =
    let on = read_on c.args.stop c.args.ended.now _ _ c.requires.stop c.is_read.ensures c.if-is_read.true in
    (c.in_ok-moved.ensures 0).same.closed ∙ on.0.2

pub returns-then-is_read : goal.returns-then-is_read
returns-then-is_read g c = λ moment.
    let none = turns_none c.args.number moment (counted_by c.args.watch.now) c.args.server.now c.requires.is_open in
    let before = stopped c.args.number moment (counted_by c.args.watch.now) (counted_by c.args.watch.now) (counted_by c.send.new.watch) c.in_ok-moved.moved Again c.args.server.now c.args.server.now c.send.new.server (g.R.Read.remaining c.args.reader.now) (g.W.Write.contents c.args.writer.now) (g.W.Write.contents c.send.new.writer) c.args.ended.now none (c.in_ok-moved.ensures moment) tt in
    pumps_then c.args.number moment (counted_by c.args.watch.now) (counted_by c.send.new.watch) (counted_by c.read_or_block.new.watch) (pump_of c.read_or_block.result) c.args.server.now c.send.new.server c.read_or_block.new.server _ _ _ _ _ _ c.args.ended.now c.args.ended.now c.read_or_block.new.ended
    before (c.read_or_block.ensures moment (g.W.Write.contents c.send.new.writer))

pub returns-then-moved-2 : goal.returns-then-moved-2
returns-then-moved-2 g c = λ moment.
    let none = turns_none c.args.number moment (counted_by c.args.watch.now) c.args.server.now c.requires.is_open in
    stopped c.args.number moment (counted_by c.args.watch.now) (counted_by c.args.watch.now) (counted_by c.send.new.watch) c.in_ok-moved.moved Again c.args.server.now c.args.server.now c.send.new.server (g.R.Read.remaining c.args.reader.now) _ _ c.args.ended.now none (c.in_ok-moved.ensures moment) tt

pub returns : goal.returns
returns g c = λ moment.
    let sent = c.in_ok-moved.ensures moment in
    let none = turns_none c.args.number moment (counted_by c.args.watch.now) c.args.server.now c.requires.is_open in
    let kept : c.send.new.server ≡ c.args.server.now = went_false c.in_ok-moved.moved _ _ _ _ c.if-moved-2.false sent.how in
    stopped c.args.number moment (counted_by c.args.watch.now) (counted_by c.args.watch.now) (counted_by c.send.new.watch) c.in_ok-moved.moved Blocked c.args.server.now c.args.server.now c.send.new.server (g.R.Read.remaining c.args.reader.now) _ _ c.args.ended.now none sent
    (stuck c.args.stop c.args.ended.now _ (connection_at c.send.new.server c.args.number) (sym c.is_spent.ensures ∙ c.if-is_spent.false) (rw kept c.requires.stop) c.is_over.ensures c.if-is_over.false (sym c.is_read.ensures ∙ c.if-is_read.false))
