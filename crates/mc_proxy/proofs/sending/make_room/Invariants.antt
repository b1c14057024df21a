use Rattle.std.proofs.Common.{◌≡◌, ℕ, ◌<◌, length}
use Rattle.std.specs.Prelude.{slice_index_or}
use Rattle.mc_route.specs.declared.routes.Routed.{Routed}
use Rattle.mc_proxy.specs.SessionState.{states}
use Rattle.mc_proxy.specs.Sending.{IsRoomy, roomy_at}
use Rattle.mc_proxy.proofs.sending.make_room.Given as goal

-- the links are as they were, and those of the commands so far have room
abbrev pub invariant-loop-command : goal.invariant-loop-command
invariant-loop-command l = record {
  unchanged : states l.links ≡ states l.initial.links;
  roomy : (k : ℕ) (d : Routed) → k < l.command-index → IsRoomy l.bytes (length l.commands) (roomy_at l.links (slice_index_or l.commands k d).server);
}
