use Rattle.std.proofs.Common.{◌≡◌, rules, refl, sym, subst, Bool, Result, Ok, Err}
use Rattle.mc_proxy.specs.ProxyState.{ProxyState}
use Rattle.mc_stream.specs.declared.outcomes.Pumped.{Pumped}
use Rattle.mc_stream.specs.declared.outcomes.Pumped.TheVariants.{Failed}
use Rattle.mc_stream.proofs.SideLemmas.{came_none, read_none, read_stops}
use Rattle.mc_proxy_pump.specs.LinkRounds.{ReceivesLink}
use Rattle.mc_proxy_pump.proofs.LinkLemmas.{link_fed, link_unfed}
use Rattle.mc_proxy_pump.proofs.links.receive.Goals as goal

pub returns-in_err-count : goal.returns-in_err-count
returns-in_err-count g c =
    let same : c.from_residual.result ≡ Err c.in_err-count.field-0.0 = search rules in
    let P : Result Bool Pumped → Type 0 = λ side. ReceivesLink c.args.server side c.args.proxy.now c.args.proxy.now (g.R.Read.remaining c.args.reader.now) (g.R.Read.remaining c.read_once.new.reader) c.read_once.new.ended in
    subst P (sym same) (link_unfed c.args.server (Err c.in_err-count.field-0.0) c.args.proxy.now _ _ c.read_once.new.ended c.requires.is_up
    (read_stops c.in_err-count.field-0.0 c.read_once.new.piece _ _ _ c.in_err-count.ensures))

pub returns-then-count-eq0 : goal.returns-then-count-eq0
returns-then-count-eq0 g c =
    link_unfed c.args.server (Ok c.read_once.new.ended) c.args.proxy.now _ _ c.read_once.new.ended c.requires.is_up
    (came_none _ _ c.read_once.new.ended _ (read_none c.in_ok-count.count c.read_once.new.piece _ _ _ c.if-count-eq0.true c.in_ok-count.ensures) refl)

pub returns-in-Ok : goal.returns-in-Ok
returns-in-Ok g c =
    link_fed c.args.server c.split_at.result.0.now c.args.proxy.now c.link_feed.new.self _ _ c.read_once.new.ended c.requires.is_up c.in-Ok.ensures.fed
    (rw c.split_at.ensures.front c.in_ok-count.ensures.2)

pub returns-in-Err : goal.returns-in-Err
returns-in-Err g c =
    let kept : c.args.proxy.now ≡ c.link_feed.new.self = sym c.in-Err.ensures.err in
    let P : ProxyState → Type 0 = λ s. ReceivesLink c.args.server (Err Failed) c.args.proxy.now s (g.R.Read.remaining c.args.reader.now) (g.R.Read.remaining c.read_once.new.reader) c.read_once.new.ended in
    subst P kept
    (link_unfed c.args.server (Err Failed) c.args.proxy.now _ _ c.read_once.new.ended c.requires.is_up
    (c.split_at.result.0.now, rw c.split_at.ensures.front c.in_ok-count.ensures.2))
