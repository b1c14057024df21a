-- Slots, as lists of their parts. This project's own.
use Rattle.std.specs.Prelude.{◌≡◌, ℕ, ◌<◌, ◌%◌, ◌^◌, Bool, true, false, List, length, Some, map, fold, slice_get, slice_index_or}
use Rattle.std.specs.Hash.{HashWrites}
use Rattle.std.specs.declared.hash.Hasher as hasher
use Rattle.std.specs.declared.hash.BuildHasher as builder
use Rattle.mc_table.specs.Chains.{IsChained}
use Rattle.mc_table.specs.declared.slots.Slot.{Slot}

module _ {K V : Type 0} where
  -- the keys with their values
  abbrev pub entries_of : List (Slot K V) → List (K × V)
  entries_of slots = map (λ s. (s.key, s.value)) slots

  -- the tags
  abbrev pub tags_of : List (Slot K V) → List ℕ
  tags_of slots = map (λ s. s.tag) slots

  -- the place that each leads to
  abbrev pub nexts_of : List (Slot K V) → List ℕ
  nexts_of slots = map (λ s. s.next) slots

  -- each slot but one is in its bucket's chain
  abbrev pub AreChained : List ℕ → List (Slot K V) → ℕ → Type 0
  AreChained heads slots out = IsChained heads (tags_of slots) (nexts_of slots) out (length slots)

  -- no slot of a tag has a key that passes the test
  abbrev pub NoneStands : (K → Bool) → ℕ → List (Slot K V) → Type 0
  NoneStands test tag slots = (index : ℕ) (e : K × V) → slice_get (entries_of slots) index ≡ Some e → slice_index_or (tags_of slots) index 0 ≡ tag → test e.0 ≡ false

-- the entry at an index has a key that passes the test
abbrev pub Stands : {K V : Type 0} → (K → Bool) → List (K × V) → ℕ → Type 0
Stands {K} {V} test entries index = (e : K × V) × (slice_get entries index ≡ Some e) × (test e.0 ≡ true)

-- the lower 32 bits of the hash of what is hashed
unfoldable pub tag_of : {S H : Type 0} → builder.Ghosts S H → hasher.Ghosts H → S → HashWrites → ℕ
tag_of b h s writes = h.finish (fold h.write (b.build_hasher s) writes) % 2 ^ 32

-- the slots are in the chains of their keys' hashes, and no two keys are equal
pub record AreHashed {K V : Type 0} (eq : K → K → Bool) (tag : K → ℕ) (heads : List ℕ) (slots : List (Slot K V)) : Type 0 where
  pub chained : AreChained heads slots 0
  pub tagged : (index : ℕ) (e : K × V) → slice_get (entries_of slots) index ≡ Some e → slice_index_or (tags_of slots) index 0 ≡ tag e.0
  pub distinct : (index other : ℕ) (e d : K × V) → slice_get (entries_of slots) index ≡ Some e → slice_get (entries_of slots) other ≡ Some d → eq e.0 d.0 ≡ true → index ≡ other
  pub buckets : 0 < length heads
  pub small : length slots < 2 ^ 32
