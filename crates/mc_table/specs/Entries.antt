-- Things by their numbers: this project's own.
use Rattle.std.specs.Prelude.{ℕ, ◌+◌, ◌==◌, List, [], ◌∷◌, ◌++◌, Option, Some, None, if◌then◌else◌}

-- the things that have numbers, in the order of the numbers, and the number of the next
pub record Numbering (T : Type 0) : Type 0 where
  pub entries : List (ℕ × T)
  pub next : ℕ

-- what has a number, if something has it
abbrev pub entry_of : {T : Type 0} → List (ℕ × T) → ℕ → Option T
entry_of [] number = None
entry_of (entry ∷ others) number = if entry.0 == number then Some entry.1 else entry_of others number

-- the same entries, except that the one of a number is this
abbrev pub updated : {T : Type 0} → ℕ → T → List (ℕ × T) → List (ℕ × T)
updated number value [] = []
updated number value (entry ∷ others) =
    if entry.0 == number then (entry.0, value) ∷ others else entry ∷ updated number value others

-- the entries without the one of a number
abbrev pub without : {T : Type 0} → ℕ → List (ℕ × T) → List (ℕ × T)
without number [] = []
without number (entry ∷ others) = if entry.0 == number then others else entry ∷ without number others

-- one more entry, under the next number
abbrev pub with_next : {T : Type 0} → T → Numbering T → Numbering T
with_next value n = record { entries = n.entries ++ (n.next, value) ∷ []; next = n.next + 1 }
