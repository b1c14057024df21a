use Rattle.std.proofs.Common.{◌≡◌, length}
use Rattle.std.specs.List.{All}
use Rattle.mc_pool_script.specs.Stores.{IsEmptyStore}
use Rattle.mc_pool_script.proofs.worlds.empty_stores.Given as goal

abbrev pub invariant-loop : goal.invariant-loop
invariant-loop g l = record {
  count : length l.stores.items ≡ l.counter;
  empty : All (λ store. IsEmptyStore l.items (g.S.Store.items store) (g.S.Store.most store)) l.stores.items;
}
