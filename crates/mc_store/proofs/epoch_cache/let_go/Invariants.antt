use Rattle.std.specs.Prelude.{◌≡◌, ◌<◌, ◌≤◌, ◌^◌, ◌-◌, ◌⊎◌, ◌++◌, drop, min, length}
use Rattle.mc_store.specs.Epochs.{Entries, entry_costs}
use Rattle.mc_store.proofs.epoch_cache.let_go.Given as goal

abbrev pub invariant-loop-cache : goal.invariant-loop-cache
invariant-loop-cache g l =
    ((out : Entries) × (g.M.Recent.entries l.initial.cache ≡ g.M.Recent.entries l.cache ++ out)
    × (l.gone ≡ min (length out) (2 ^ 64 - 1)) × (l.freed ≡ min (entry_costs out) (2 ^ 64 - 1))
    × ((length out ≤ 2) ⊎ (entry_costs (drop 1 out) < l.price)))
    × (l.count ≤ length (g.M.Recent.entries l.cache)) × (g.M.Recent.room l.cache ≡ g.M.Recent.room l.initial.cache)

abbrev pub decreases-loop-cache : goal.decreases-loop-cache
decreases-loop-cache g l = length (g.M.Recent.entries l.cache)
