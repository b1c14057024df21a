-- Entries by their places, and what a search of them finds. This project's own.
use Rattle.std.specs.Prelude.{◌≡◌, ℕ, zero, suc, ◌-◌, ◌<◌, ◌^◌, Bool, true, false, List, [], ◌∷◌, length, Option, Some, None, slice_get}
use Rattle.std.specs.Option.{option_map_or}
use Rattle.std.specs.Map.{lookup_entry, remove_entry}
use Rattle.mc_table.specs.Places.{AreAll}

-- an optional entry in front of others
abbrev pub put_some : {X : Type 0} → Option X → List X → List X
put_some None xs = xs
put_some (Some x) xs = x ∷ xs

-- the entries in the order of places, of which the first is 1
abbrev pub in_order : {X : Type 0} → List X → List ℕ → List X
in_order entries [] = []
in_order entries (p ∷ ps) = put_some (slice_get entries (p - 1)) (in_order entries ps)

-- the entry whose key passes the test moves to the front
abbrev pub promoted : {K V : Type 0} → (K → Bool) → List (K × V) → List (K × V)
promoted test entries = option_map_or (λ e. e ∷ remove_entry test entries) (lookup_entry test entries) entries

-- a value under a key moves to the front: an existing key stays, with the new value
abbrev pub put_entry : {K V : Type 0} → (K → K → Bool) → K → V → List (K × V) → List (K × V)
put_entry eq key value entries = option_map_or (λ e. (e.0, value) ∷ remove_entry (eq key) entries) (lookup_entry (eq key) entries) ((key, value) ∷ entries)

-- the value at an index is another
abbrev pub with_value : {K V : Type 0} → List (K × V) → ℕ → V → List (K × V)
with_value [] index value = []
with_value (e ∷ entries) zero value = (e.0, value) ∷ entries
with_value (e ∷ entries) (suc index) value = e ∷ with_value entries index value

-- this entry alone has a key that passes the test
pub record IsAt {K V : Type 0} (test : K → Bool) (entries : List (K × V)) (index : ℕ) : Type 0 where
  pub entry : K × V
  pub within : index < length entries
  pub is : slice_get entries index ≡ Some entry
  pub passes : test entry.0 ≡ true
  pub alone : (other : ℕ) (e : K × V) → slice_get entries other ≡ Some e → test e.0 ≡ true → other ≡ index

-- no entry has a key that passes the test
abbrev pub IsNowhere : {K V : Type 0} → (K → Bool) → List (K × V) → Type 0
IsNowhere {K} {V} test entries = (other : ℕ) (e : K × V) → slice_get entries other ≡ Some e → test e.0 ≡ false

-- the places are those of the entries
pub record IsTable {X : Type 0} (entries : List X) (places : List ℕ) : Type 0 where
  pub all : AreAll places
  pub same : length places ≡ length entries
  pub small : length places < 2 ^ 32
