use Rattle.mc_request.specs.LinesSeen.{asked_of}
use Rattle.mc_route.specs.Routes.{route_of_taken}
use Rattle.mc_proxy.specs.SessionState.{states}
use Rattle.mc_proxy.proofs.TurnLemmas.{NoneBefore}
use Rattle.mc_proxy.proofs.sending.is_any_marked.Given as goal

-- no link so far has reached its mark and is needed
abbrev pub invariant-loop-place : goal.invariant-loop-place
invariant-loop-place l = NoneBefore (states l.links) (route_of_taken l.ring (asked_of l.asked)) l.place
