use Rattle.std.proofs.Common.{◌≡◌, ◌≤◌, ◌++◌, length}
use Rattle.mc_store.specs.Epochs.{Entries}
use Rattle.mc_store.proofs.epoch_cache.let_all_go.Given as goal

abbrev pub invariant-loop-cache : goal.invariant-loop-cache
invariant-loop-cache g l =
    ((out : Entries) × (g.M.Recent.entries l.initial.cache ≡ g.M.Recent.entries l.cache ++ out))
    × (l.count ≤ length (g.M.Recent.entries l.cache)) × (g.M.Recent.room l.cache ≡ g.M.Recent.room l.initial.cache)

abbrev pub decreases-loop-cache : goal.decreases-loop-cache
decreases-loop-cache g l = length (g.M.Recent.entries l.cache)
