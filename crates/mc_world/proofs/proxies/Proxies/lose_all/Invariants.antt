use Rattle.std.proofs.Common.{◌≡◌, ◌++◌, map, take, drop}
use Rattle.mc_world.specs.Restarts.{without_link}
use Rattle.mc_world.proofs.proxies.Proxies.lose_all.Given as goal

-- the proxies so far have no link to the server that is up
abbrev pub invariant-loop-it : goal.invariant-loop-it
invariant-loop-it l = l.it-items ≡ map (without_link l.server) (take l.it-index l.initial.it-items) ++ drop l.it-index l.initial.it-items
