-- Places in an order: numbers from 1 on, each once. This project's own.
use Rattle.std.specs.Prelude.{◌≡◌, ℕ, ◌<◌, ◌≤◌, ◌==◌, ◌⊎◌, List, [], ◌∷◌, length, if◌then◌else◌}

-- a place is among places
abbrev pub Member : ℕ → List ℕ → Type 0
Member place [] = ⊥
Member place (p ∷ ps) = (p ≡ place) ⊎ Member place ps

-- a place is not among places
abbrev pub Apart : ℕ → List ℕ → Type 0
Apart place [] = Unit {0}
Apart place (p ∷ ps) = (p ≡ place → ⊥) × Apart place ps

-- no place occurs twice
abbrev pub AllApart : List ℕ → Type 0
AllApart [] = Unit {0}
AllApart (p ∷ ps) = Apart p ps × AllApart ps

-- each place is from 1 to a number
abbrev pub UpTo : ℕ → List ℕ → Type 0
UpTo most [] = Unit {0}
UpTo most (p ∷ ps) = (0 < p) × (p ≤ most) × UpTo most ps

-- the first of places, or 0 if there is none
abbrev pub first_of : List ℕ → ℕ
first_of [] = 0
first_of (p ∷ ps) = p

-- the last of a place and others
abbrev pub last_from : ℕ → List ℕ → ℕ
last_from place [] = place
last_from place (p ∷ ps) = last_from p ps

-- the last of places, or 0 if there is none
abbrev pub last_of : List ℕ → ℕ
last_of places = last_from 0 places

-- places without the first of a number
abbrev pub left_out : ℕ → List ℕ → List ℕ
left_out place [] = []
left_out place (p ∷ ps) = if p == place then ps else p ∷ left_out place ps

-- places of which one has another number
abbrev pub renumbered : ℕ → ℕ → List ℕ → List ℕ
renumbered from to [] = []
renumbered from to (p ∷ ps) = (if p == from then to else p) ∷ renumbered from to ps

-- each of the numbers from 1 to their count, once
pub record AreAll (places : List ℕ) : Type 0 where
  pub once : AllApart places
  pub within : UpTo (length places) places
  pub all : (place : ℕ) → 0 < place → place ≤ length places → Member place places
