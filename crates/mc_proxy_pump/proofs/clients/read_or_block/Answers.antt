use Rattle.std.proofs.Common.{◌≡◌, ap, rules, sym, subst, Result, Err}
use Rattle.mc_proxy.specs.ProxyState.{ProxyState, session_at}
use Rattle.mc_stream.specs.declared.outcomes.Pumped.{Pumped}
use Rattle.mc_stream.specs.declared.outcomes.Pumped.TheVariants.{Again, Blocked}
use Rattle.mc_stream.proofs.SideLemmas.{came_false}
use Rattle.mc_proxy_pump.specs.Clients.{IsStuck, PumpsClient}
use Rattle.mc_stream.specs.Sides.{pump_of}
use Rattle.mc_proxy_pump.proofs.PumpLemmas.{pumps_heard, pumps_unheard}
use Rattle.mc_proxy_pump.proofs.RoundLemmas.{early_kept, unheard}
use Rattle.mc_proxy_pump.specs.Tallies.{Counts, counts_of}
use Rattle.mc_proxy_pump.proofs.clients.read_or_block.Goals as goal

pub returns-in_err-moved : goal.returns-in_err-moved
returns-in_err-moved g c = λ written.
    let same : c.from_residual.result ≡ Err c.in_err-moved.field-0.0 = search rules in
    let P : Result (Unit {0}) Pumped → Type 0 = λ r. PumpsClient c.args.session (pump_of r) c.args.proxy.now c.receive.new.proxy (g.R.Read.remaining c.args.reader.now) (g.R.Read.remaining c.receive.new.reader) written written c.args.ended.now c.receive.new.ended (counts_of c.args.tally.now) (counts_of c.receive.new.tally) in
    subst P (sym same) (pumps_unheard c.args.session c.in_err-moved.field-0.0 c.args.proxy.now c.receive.new.proxy _ _ written c.args.ended.now c.receive.new.ended (counts_of c.args.tally.now) (counts_of c.receive.new.tally) c.requires.goes_on c.in_err-moved.ensures)

pub returns-then-moved : goal.returns-then-moved
returns-then-moved g c = λ written.
    pumps_heard c.args.session c.in_ok-moved.moved Again c.args.proxy.now c.receive.new.proxy _ _ written c.args.ended.now c.receive.new.ended (counts_of c.args.tally.now) (counts_of c.receive.new.tally) c.requires.goes_on c.in_ok-moved.ensures tt

pub returns : goal.returns
returns g c = λ written.
    let received = c.in_ok-moved.ensures in
    let still = came_false c.in_ok-moved.moved (g.R.Read.remaining c.args.reader.now) (g.R.Read.remaining c.receive.new.reader) c.receive.new.ended received.came (c.receive.new.proxy ≡ c.args.proxy.now) c.if-moved.false received.how in
    let P : ProxyState → Type 0 = λ p. IsStuck c.receive.new.ended p (session_at p c.args.session) in
    pumps_heard c.args.session c.in_ok-moved.moved Blocked c.args.proxy.now c.receive.new.proxy _ _ written c.args.ended.now c.receive.new.ended (counts_of c.args.tally.now) (counts_of c.receive.new.tally) c.requires.goes_on received (
      subst P (sym still.1) (unheard c.receive.new.ended c.args.proxy.now (session_at c.args.proxy.now c.args.session) c.requires.none_waits c.requires.none_known c.requires.is_read still.0),
      early_kept c.args.session c.args.tally.now.left c.receive.new.tally.left c.args.proxy.now c.receive.new.proxy (ap (λ (counts : Counts). counts.1) received.uncounted) still.1 c.requires.early,
    )
