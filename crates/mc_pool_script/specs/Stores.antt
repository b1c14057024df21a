-- The stores of a pool's servers.
use Rattle.std.specs.Prelude.{ℕ, ◌≡◌, ◌<◌, [], Option, IfSome}
use Rattle.mc_store.specs.Items.{Items}

-- a store that is empty, and may store more items than this number
abbrev pub IsEmptyStore : ℕ → Items → Option ℕ → Type 0
IsEmptyStore items held most = (held ≡ []) × IfSome most (λ most. items < most)
