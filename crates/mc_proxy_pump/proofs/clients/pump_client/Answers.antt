use Rattle.std.proofs.Common.{◌≡◌, ◌∙◌, true, false, sym}
use Rattle.mc_proxy.specs.ProxyState.{session_at}
use Rattle.mc_proxy_pump.specs.declared.limits.TheConstants.{QUANTUM}
use Rattle.mc_stream.specs.declared.outcomes.Pumped.TheVariants.{Failed}
use Rattle.mc_proxy_pump.proofs.PumpLemmas.{foreign_closed, pumps_turns}
use Rattle.mc_proxy_pump.proofs.StretchLemmas.{open_some, stretch_none}
use Rattle.mc_proxy_pump.proofs.clients.pump_client.Goals as goal

pub rounds-pump-requires-clause-is_open : goal.rounds-pump-requires-clause-is_open
rounds-pump-requires-clause-is_open g c = open_some (session_at c.args.proxy.now c.args.session) (c.is_open.ensures.0 c.if-not-is_open.false)

pub returns-clause-pumps : goal.returns-clause-pumps
returns-clause-pumps g c = λ there. (c.rounds-pump.new.tally.left, c.rounds-pump.ensures)

pub returns-then-not-is_open-clause-pumps : goal.returns-then-not-is_open-clause-pumps
returns-then-not-is_open-clause-pumps g c = λ there. (
  QUANTUM,
  pumps_turns c.args.session Failed c.args.proxy.now c.args.proxy.now (g.R.Read.remaining c.args.reader.now) (g.W.Write.contents c.args.writer.now) c.args.ended.now (c.args.tally.now.missed, QUANTUM) (c.args.tally.now.missed, QUANTUM)
      (stretch_none c.args.session c.args.proxy.now (c.args.tally.now.missed, QUANTUM) there) tt,
)

pub returns-then-not-is_open-clause-foreign : goal.returns-then-not-is_open-clause-foreign
returns-then-not-is_open-clause-foreign g c =
    foreign_closed (session_at c.args.proxy.now c.args.session) c.args.tally.now.foreign
    (λ some. let clash : true ≡ false = sym (c.is_open.ensures.1 some) ∙ c.if-not-is_open.true in absurd cc)
