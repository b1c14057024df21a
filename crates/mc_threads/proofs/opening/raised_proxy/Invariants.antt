use Rattle.std.proofs.Common.{◌≡◌, [], length}
use Rattle.mc_route.specs.declared.losses.Losses.TheVariants.{Told}
use Rattle.mc_proxy.proofs.RaisingLemmas.{raised}
use Rattle.mc_threads.proofs.opening.raised_proxy.Given as goal

-- the first links are up
abbrev pub invariant-loop-place : goal.invariant-loop-place
invariant-loop-place l = l.proxy ≡ record { losses = Told; ring = l.fn.ring; sessions = []; admitted = 0; links = raised l.place (length l.fn.ring.servers) }
