use Rattle.std.proofs.Common.{◌≡◌, ◌+◌, ◌++◌, drop}
use Rattle.std.specs.Prelude.{sum}
use Rattle.mc_world.specs.Worlds.{opening_proxies}
use Rattle.mc_world.proofs.openings.opened_proxies.Given as goal

-- the proxies so far, and the others, are all, and so are their clients
abbrev pub invariant-loop-place : goal.invariant-loop-place
invariant-loop-place l = record {
  opened : l.proxies.items ++ opening_proxies l.losses l.ring l.first (drop l.place l.clients) ≡ opening_proxies l.losses l.ring 0 l.clients;
  left : l.first + sum (drop l.place l.clients) ≡ sum l.clients;
}
