use Rattle.std.proofs.Common.{◌≡◌, rules, refl, sym, subst, Bool, Result, Ok, Err}
use Rattle.mc_proxy.specs.ProxyState.{ProxyState}
use Rattle.mc_stream.specs.declared.outcomes.Pumped.{Pumped}
use Rattle.mc_stream.specs.declared.outcomes.Pumped.TheVariants.{Failed}
use Rattle.mc_stream.proofs.SideLemmas.{came_none, read_none, read_stops}
use Rattle.mc_proxy_pump.specs.Rounds.{Receives}
use Rattle.mc_proxy_pump.proofs.RoundLemmas.{receives_still, stretch_fed}
use Rattle.mc_proxy_pump.specs.Tallies.{counts_of}
use Rattle.mc_proxy_pump.proofs.clients.receive.Goals as goal

pub returns-in_err-count : goal.returns-in_err-count
returns-in_err-count g c =
    let same : c.from_residual.result ≡ Err c.in_err-count.field-0.0 = search rules in
    let P : Result Bool Pumped → Type 0 = λ side. Receives c.args.session side c.args.proxy.now c.args.proxy.now (g.R.Read.remaining c.args.reader.now) (g.R.Read.remaining c.read_once.new.reader) c.read_once.new.ended (counts_of c.args.tally.now) (counts_of c.args.tally.now) in
    subst P (sym same) (receives_still c.args.session (Err c.in_err-count.field-0.0) c.args.proxy.now _ _ c.read_once.new.ended (counts_of c.args.tally.now) c.requires.is_open
    (read_stops c.in_err-count.field-0.0 c.read_once.new.piece _ _ _ c.in_err-count.ensures))

pub returns-then-count-eq0 : goal.returns-then-count-eq0
returns-then-count-eq0 g c =
    receives_still c.args.session (Ok c.read_once.new.ended) c.args.proxy.now _ _ c.read_once.new.ended (counts_of c.args.tally.now) c.requires.is_open
    (came_none _ _ c.read_once.new.ended _ (read_none c.in_ok-count.count c.read_once.new.piece _ _ _ c.if-count-eq0.true c.in_ok-count.ensures) refl)

pub returns-in-Ok : goal.returns-in-Ok
returns-in-Ok g c = record {
  came = c.split_at.result.0.now;
  stretch = stretch_fed c.args.session c.split_at.result.0.now c.args.proxy.now c.feed.new.self (counts_of c.args.tally.now) c.in-Ok.ensures.fed c.requires.none_waits c.requires.below;
  uncounted = refl;
  how = rw c.split_at.ensures.front c.in_ok-count.ensures.2;
}

pub returns-in-Err : goal.returns-in-Err
returns-in-Err g c =
    let kept : c.args.proxy.now ≡ c.feed.new.self = sym c.in-Err.ensures.err in
    let P : ProxyState → Type 0 = λ s. Receives c.args.session (Err Failed) c.args.proxy.now s (g.R.Read.remaining c.args.reader.now) (g.R.Read.remaining c.read_once.new.reader) c.read_once.new.ended (counts_of c.args.tally.now) (counts_of c.args.tally.now) in
    subst P kept
    (receives_still c.args.session (Err Failed) c.args.proxy.now _ _ c.read_once.new.ended (counts_of c.args.tally.now) c.requires.is_open
    (c.split_at.result.0.now, rw c.split_at.ensures.front c.in_ok-count.ensures.2))
