use Rattle.std.proofs.Common.{◌≡◌, ◌+◌, length}
use Rattle.mc_proxy.specs.SessionState.{states}
use Rattle.mc_proxy.specs.Sending.{AreRoomy, handed}
use Rattle.mc_proxy.proofs.sending.send_all.Given as goal

-- the commands to come are sent after those so far, and there is room for them
abbrev pub invariant-loop-command : goal.invariant-loop-command
invariant-loop-command l = record {
  handed : handed l.session l.request l.at l.queue.items (states l.links) ≡ handed l.session l.request 0 l.initial.queue.items (states l.initial.links);
  roomy : AreRoomy l.links l.queue.items;
  counted : l.at + length l.queue.items ≡ length l.initial.queue.items;
}

abbrev pub decreases-loop-command : goal.decreases-loop-command
decreases-loop-command l = length l.queue.items
