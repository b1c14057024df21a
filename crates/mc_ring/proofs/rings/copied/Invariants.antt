use Rattle.std.proofs.Common.{◌≡◌, take}
use Rattle.mc_ring.proofs.rings.copied.Given as goal

-- the servers so far
abbrev pub invariant-loop-server : goal.invariant-loop-server
invariant-loop-server l = l.copies.items ≡ take l.server-index l.servers
