use Rattle.std.proofs.Common.{◌≡◌}
use Rattle.mc_server.specs.ServerState.{connection_at}
use Rattle.mc_pump.specs.Pumps.{IsBarred}
use Rattle.mc_pump.specs.Rounds.{PumpsPart}
use Rattle.mc_pump.specs.declared.limits.TheConstants.{QUANTUM}
use Rattle.mc_stream.specs.declared.outcomes.Pumped.TheVariants.{Again}
use Rattle.mc_pump.specs.Counts.{counted_by}
use Rattle.mc_pump.proofs.gathering.pump_gathering.Given as goal

-- the rounds so far are one pump
abbrev pub invariant-loop-round : goal.invariant-loop-round
invariant-loop-round g l = PumpsPart l.number l.moment Again l.fn.server l.server (g.R.Read.remaining l.fn.reader) (g.R.Read.remaining l.reader)
    (g.W.Write.contents l.fn.writer) (g.W.Write.contents l.writer) l.fn.ended l.ended (record { refused = l.fn.watch.no_memory; left = QUANTUM; most = l.fn.watch.most }) (counted_by l.watch)
    × (IsBarred (connection_at l.fn.server l.number) → (l.server ≡ l.fn.server) × (l.watch.left ≡ QUANTUM) × (l._round ≡ 0))
