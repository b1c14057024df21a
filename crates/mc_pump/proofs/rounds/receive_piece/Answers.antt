use Rattle.std.proofs.Common.{◌≡◌, rules, refl, sym, subst, Bool, Result, Ok, Err}
use Rattle.mc_server.specs.ServerState.{ServerState}
use Rattle.mc_pump.specs.Rounds.{Receives}
use Rattle.mc_stream.specs.declared.outcomes.Pumped.{Pumped}
use Rattle.mc_stream.specs.declared.outcomes.Pumped.TheVariants.{Failed}
use Rattle.mc_pump.proofs.StretchLemmas.{fed_takes_none, stretch_fed}
use Rattle.mc_stream.proofs.SideLemmas.{came_none, read_none, read_stops}
use Rattle.mc_pump.proofs.RoundLemmas.{receives_still}
use Rattle.mc_pump.specs.Counts.{counted_by}
use Rattle.mc_pump.proofs.rounds.receive_piece.Goals as goal

pub returns-in_err-count : goal.returns-in_err-count
returns-in_err-count g c = λ moment.
    let same : c.from_residual.result ≡ Err c.in_err-count.field-0.0 = search rules in
    let P : Result Bool Pumped → Type 0 = λ side. Receives c.args.number moment side c.args.server.now c.args.server.now (g.R.Read.remaining c.args.reader.now) (g.R.Read.remaining c.read_once.new.reader) c.read_once.new.ended (counted_by c.args.watch.now) (counted_by c.args.watch.now) in
    subst P (sym same) (receives_still c.args.number moment (counted_by c.args.watch.now) (Err c.in_err-count.field-0.0) c.args.server.now _ _ c.read_once.new.ended c.requires.is_open
    (read_stops c.in_err-count.field-0.0 c.read_once.new.piece _ _ _ c.in_err-count.ensures))

pub returns-then-count-eq0 : goal.returns-then-count-eq0
returns-then-count-eq0 g c = λ moment.
    receives_still c.args.number moment (counted_by c.args.watch.now) (Ok c.read_once.new.ended) c.args.server.now _ _ c.read_once.new.ended c.requires.is_open
    (came_none _ _ c.read_once.new.ended _ (read_none c.in_ok-count.count c.read_once.new.piece _ _ _ c.if-count-eq0.true c.in_ok-count.ensures) refl)

pub returns-in-Ok : goal.returns-in-Ok
returns-in-Ok g c = λ moment. record {
  came = c.split_at.result.0.now;
  stretch = stretch_fed c.args.number moment c.split_at.result.0.now c.args.server.now c.feed.new.self c.in-Ok.ensures.fed c.requires.below;
  untaken = fed_takes_none c.args.number moment c.split_at.result.0.now c.args.server.now c.feed.new.self c.in-Ok.ensures.fed c.requires.below;
  uncounted = refl;
  how = rw c.split_at.ensures.front c.in_ok-count.ensures.2;
}

pub returns-in-Err : goal.returns-in-Err
returns-in-Err g c = λ moment.
    let kept : c.args.server.now ≡ c.feed.new.self = sym c.in-Err.ensures.err in
    let P : ServerState → Type 0 = λ s. Receives c.args.number moment (Err Failed) c.args.server.now s (g.R.Read.remaining c.args.reader.now) (g.R.Read.remaining c.read_once.new.reader) c.read_once.new.ended (counted_by c.args.watch.now) (counted_by c.args.watch.now) in
    subst P kept
    (receives_still c.args.number moment (counted_by c.args.watch.now) (Err Failed) c.args.server.now _ _ c.read_once.new.ended c.requires.is_open
    (c.split_at.result.0.now, rw c.split_at.ensures.front c.in_ok-count.ensures.2))
