use Rattle.std.proofs.Common.{◌≡◌, ◌<◌, length}
use Rattle.mc_server.specs.ServerState.{connection_at}
use Rattle.mc_server.specs.Turns.{waiting_of}
use Rattle.mc_pump.specs.Pumps.{IsBarred}
use Rattle.mc_pump.specs.Gathers.{GathersTurns}
use Rattle.mc_pump.specs.Counts.{counted_by}
use Rattle.mc_pump.proofs.gathering.gather_turns.Given as goal

-- the turns so far
abbrev pub invariant-loop-stop : goal.invariant-loop-stop
invariant-loop-stop g l = GathersTurns l.number l.moment l.fn.server l.server (g.W.Write.contents l.fn.writer) (g.W.Write.contents l.writer) (counted_by l.fn.watch) (counted_by l.watch)
    × (IsBarred (connection_at l.fn.server l.number) → 0 < l.fn.watch.left → (l.server ≡ l.fn.server) × (l.watch.left ≡ l.fn.watch.left))

-- each turn takes one of those that are pending
abbrev pub decreases-loop-stop : goal.decreases-loop-stop
decreases-loop-stop g l = length (waiting_of (connection_at l.server l.number))
