use Rattle.std.proofs.Common.{◌≡◌}
use Rattle.mc_cache.specs.CacheState.{opening_cache}
use Rattle.mc_world.specs.Worlds.{admitting, first_ways}
use Rattle.mc_world.proofs.openings.opened_site.Given as goal

-- the connections of the proxies so far are admitted
abbrev pub invariant-loop : goal.invariant-loop
invariant-loop g l = record {
  server : l.server ≡ admitting (opening_cache l.fn.budget l.fn.items 0) l.counter;
  ways : l.ways.items ≡ first_ways 0 l.counter;
}
