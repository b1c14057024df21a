-- The entries in the order of their numbers.
use Rattle.std.specs.Prelude.{◌≡◌, ℕ, ◌+◌, ◌<◌, ◌≤◌, List, [], ◌∷◌, length, slice_index_or}

-- the numbers rise from a lowest one on, so none occurs twice, and all are below the next
abbrev pub Rises : {T : Type 0} → ℕ → List (ℕ × T) → ℕ → Type 0
Rises low [] next = low ≤ next
Rises low (entry ∷ others) next = (low ≤ entry.0) × Rises (entry.0 + 1) others next

-- an entry that has the number is at an index
pub record IsAt {T : Type 0} (entries : List (ℕ × T)) (number place : ℕ) : Type 0 where
  pub inside : place < length entries
  pub has_number : (default : ℕ × T) → (slice_index_or entries place default).0 ≡ number
