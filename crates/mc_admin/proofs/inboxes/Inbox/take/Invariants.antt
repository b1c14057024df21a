use Rattle.std.proofs.Common.{◌≡◌, drop}
use Rattle.mc_admin.specs.Requests.{taking}
use Rattle.mc_admin.proofs.inboxes.Inbox.take.Given as goal

abbrev pub invariant-loop-byte : goal.invariant-loop-byte
invariant-loop-byte l = record {
  count : l.count ≡ l.byte-index;
  taken : taking l.fn.self l.piece ≡ taking l.self (drop l.byte-index l.piece);
}
