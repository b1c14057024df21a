use Rattle.std.proofs.Common.{◌≡◌, ◌++◌, map, take, drop}
use Rattle.mc_world.specs.WorldState.{WayState}
use Rattle.mc_world.proofs.sites.Site.restart.Given as goal

-- on the ways so far no reply is to be taken
abbrev pub invariant-loop-way : goal.invariant-loop-way
invariant-loop-way g l =
    l.way-items ≡ map (λ (way : WayState). record way { ahead = 0 }) (take l.way-index l.initial.way-items) ++ drop l.way-index l.initial.way-items
