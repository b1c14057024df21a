-- What an item costs.
use Rattle.std.specs.Prelude.{ℕ, ◌+◌, List, length}
use Rattle.mc_item.specs.declared.bodies.TheConstants.{OVERHEAD}

-- by the lengths of its key and its value, and a fixed overhead: this project's own measure
abbrev pub cost_at : ℕ → ℕ → ℕ
cost_at key value = key + value + OVERHEAD

abbrev pub cost_of : List ℕ → List ℕ → ℕ
cost_of key value = cost_at (length key) (length value)
