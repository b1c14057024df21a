-- The clients that are ready, in the order in which they are served. All of it is this project's own.
use Rattle.std.specs.Prelude.{ℕ, ◌+◌, ◌==◌, ◌&&◌, ◌||◌, Bool, true, false, not, nat_lt, List, [], ◌∷◌, ◌++◌, if◌then◌else◌}

-- the number above all keys, and the keys: the first is served next
pub record Ready : Type 0 where
  pub most : ℕ
  pub keys : List ℕ

-- whether a key is among some
abbrev pub has_key : ℕ → List ℕ → Bool
has_key key [] = false
has_key key (other ∷ rest) = (other == key) || has_key key rest

-- keys, each of which is there once
abbrev pub are_distinct : List ℕ → Bool
are_distinct [] = true
are_distinct (key ∷ rest) = not (has_key key rest) && are_distinct rest

-- a key that becomes ready is behind all others; one that is ready stays where it is, and one past the most is none
abbrev pub after_push : ℕ → ℕ → List ℕ → List ℕ
after_push most key keys = if nat_lt key most && not (has_key key keys) then keys ++ key ∷ [] else keys

-- the keys without the first that is this one
abbrev pub without : ℕ → List ℕ → List ℕ
without key [] = []
without key (other ∷ rest) = if other == key then rest else other ∷ without key rest

-- keys that become ready in sequence
abbrev pub after_pushes : ℕ → List ℕ → List ℕ → List ℕ
after_pushes most [] keys = keys
after_pushes most (key ∷ more) keys = after_pushes most more (after_push most key keys)

-- The keys that are taken from the front, in order, if there is one list of keys for each that is taken: these become ready while it
-- is served.
abbrev pub taken : ℕ → List (List ℕ) → List ℕ → List ℕ
taken most [] keys = []
taken most (pushed ∷ later) [] = []
taken most (pushed ∷ later) (key ∷ rest) = key ∷ taken most later (after_pushes most pushed rest)

-- how many marks are set
abbrev pub marked : List Bool → ℕ
marked [] = 0
marked (mark ∷ rest) = (if mark then 1 else 0) + marked rest
