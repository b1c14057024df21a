-- Entries by their numbers.
use Rattle.std.proofs.Common.{◌≡◌, ◌≢◌, ℕ, ◌==◌, true, false, if◌then◌else◌, List, [], ◌∷◌, ◌++◌, Option, Some, None, refl, sym, ap, arith}
use Rattle.std.proofs.lemmas.Bool.Decides.{nat_tests}
use Rattle.mc_table.specs.Entries.{entry_of, updated, without}

-- a number is its own, and not another's
pub own_number : (n : ℕ) → (n == n) ≡ true
own_number n = grind (arith, nat_tests)

pub other_number : (n m : ℕ) → n ≢ m → (n == m) ≡ false
other_number n m differ = grind (arith, nat_tests, differ)

module _ {T : Type 0} where
  -- the entry that was updated
  pub updated_own : (number : ℕ) (before after : T) (es : List (ℕ × T)) → entry_of es number ≡ Some before → entry_of (updated number after es) number ≡ Some after
  updated_own number before after [] was = absurd cc
  updated_own number before after (e ∷ es) was =
      let again = updated_own number before after es in
      (elim (e.0 == number) as (λ v. e.0 == number ≡ v → (if v then Some e.1 else entry_of es number) ≡ Some before
      → entry_of (if v then (e.0, after) ∷ es else e ∷ updated number after es) number ≡ Some after) [
        | true ↦ λ is h. rw is refl
        | false ↦ λ is h. rw is (again h)
      ]) refl was

  -- another entry
  pub updated_other : (number other : ℕ) (after : T) (es : List (ℕ × T)) → number ≢ other → entry_of (updated number after es) other ≡ entry_of es other
  updated_other number other after [] differ = refl
  updated_other number other after (e ∷ es) differ =
      let again = updated_other number other after es differ in
      (elim (e.0 == number) as (λ v. e.0 == number ≡ v → entry_of (if v then (e.0, after) ∷ es else e ∷ updated number after es) other ≡ entry_of (e ∷ es) other) [
        | true ↦ λ is. let another : (e.0 == other) ≡ false = grind (arith, nat_tests, differ, is) in rw another refl
        | false ↦ λ is. ap (λ (o : Option T). if e.0 == other then Some e.1 else o) again
      ]) refl

  -- an entry that stays what it was
  pub updated_same : (number : ℕ) (value : T) (es : List (ℕ × T)) → entry_of es number ≡ Some value → updated number value es ≡ es
  updated_same number value [] was = absurd cc
  updated_same number value (e ∷ es) was =
      let again = updated_same number value es in
      (elim (e.0 == number) as (λ v. (if v then Some e.1 else entry_of es number) ≡ Some value → (if v then (e.0, value) ∷ es else e ∷ updated number value es) ≡ e ∷ es) [
        | true ↦ λ h. let same : e.1 ≡ value = cc in rw (sym same) refl
        | false ↦ λ h. ap (λ (others : List (ℕ × T)). e ∷ others) (again h)
      ]) was

  -- an entry that is removed is not another one
  pub without_other : (number other : ℕ) (es : List (ℕ × T)) → number ≢ other → entry_of (without number es) other ≡ entry_of es other
  without_other number other [] differ = refl
  without_other number other (e ∷ es) differ =
      let again = without_other number other es differ in
      (elim (e.0 == number) as (λ v. e.0 == number ≡ v → entry_of (if v then es else e ∷ without number es) other ≡ entry_of (e ∷ es) other) [
        | true ↦ λ is. let another : (e.0 == other) ≡ false = grind (arith, nat_tests, differ, is) in rw another refl
        | false ↦ λ is. ap (λ (o : Option T). if e.0 == other then Some e.1 else o) again
      ]) refl

  -- if no entry has the number, nothing is removed
  pub without_absent : (number : ℕ) (es : List (ℕ × T)) → entry_of es number ≡ None → without number es ≡ es
  without_absent number [] none = refl
  without_absent number (e ∷ es) none =
      let again = without_absent number es in
      (elim (e.0 == number) as (λ v. (if v then Some e.1 else entry_of es number) ≡ None → (if v then es else e ∷ without number es) ≡ e ∷ es) [
        | true ↦ λ h. absurd cc
        | false ↦ λ h. ap (λ (others : List (ℕ × T)). e ∷ others) (again h)
      ]) none

  -- an entry after the others is the one of a number that none had
  pub fresh_own : (number : ℕ) (value : T) (es : List (ℕ × T)) → entry_of es number ≡ None → entry_of (es ++ (number, value) ∷ []) number ≡ Some value
  fresh_own number value [] none = rw (own_number number) refl
  fresh_own number value (e ∷ es) none =
      let again = fresh_own number value es in
      (elim (e.0 == number) as (λ v. (if v then Some e.1 else entry_of es number) ≡ None
      → (if v then Some e.1 else entry_of (es ++ (number, value) ∷ []) number) ≡ Some value) [
        | true ↦ λ h. absurd cc
        | false ↦ λ h. again h
      ]) none

  -- the others are as they were
  pub fresh_other : (number other : ℕ) (value : T) (es : List (ℕ × T)) → number ≢ other → entry_of (es ++ (number, value) ∷ []) other ≡ entry_of es other
  fresh_other number other value [] differ = rw (other_number number other differ) refl
  fresh_other number other value (e ∷ es) differ =
      ap (λ (o : Option T). if e.0 == other then Some e.1 else o) (fresh_other number other value es differ)
