use Rattle.std.proofs.Common.{◌≡◌, ◌+◌, [], length, replicate, All}
use Rattle.mc_cache.specs.CacheState.{HasRoom, opening_cache}
use Rattle.mc_world.specs.Worlds.{first_site}
use Rattle.mc_world.proofs.openings.opened_sites.Given as goal

-- a site for each store so far, and the stores that are left are empty
abbrev pub invariant-loop-store : goal.invariant-loop-store
invariant-loop-store g l = record {
  opened : l.sites.items ≡ replicate (length l.yielded) (first_site (opening_cache l.fn.budget l.fn.items 0) l.fn.proxies);
  left : length l.yielded + length l.store-iterator.rest.items ≡ length l.fn.stores.items;
  empty : All (λ store. g.S.Store.items store ≡ []) l.store-iterator.rest.items;
  room : All (λ store. HasRoom l.fn.items (g.S.Store.most store)) l.store-iterator.rest.items;
}
