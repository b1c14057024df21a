use Rattle.std.proofs.Common.{◌≡◌, ◌++◌, drop}
use Rattle.mc_world.specs.Worlds.{homes_from}
use Rattle.mc_world.proofs.openings.homes_of.Given as goal

-- the clients of the proxies so far, and those of the others, are all
abbrev pub invariant-loop-proxy : goal.invariant-loop-proxy
invariant-loop-proxy l = l.homes.items ++ homes_from l.proxy (drop l.proxy l.clients) ≡ homes_from 0 l.clients
