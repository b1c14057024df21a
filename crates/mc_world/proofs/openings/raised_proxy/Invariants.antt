use Rattle.std.proofs.Common.{◌≡◌, [], length}
use Rattle.mc_proxy.proofs.RaisingLemmas.{raised}
use Rattle.mc_world.proofs.openings.raised_proxy.Given as goal

-- the first links are up
abbrev pub invariant-loop-place : goal.invariant-loop-place
invariant-loop-place l = l.proxy ≡ record { losses = l.fn.losses; ring = l.fn.ring; sessions = []; admitted = 0; links = raised l.place (length l.fn.ring.servers) }
