-- Entries by their places: what a search finds, and what a change leaves.
use Rattle.std.proofs.Common.{◌≡◌, ◌≢◌, ℕ, zero, suc, ◌+◌, ◌==◌, ◌<◌, ◌≤◌, List, [], ◌∷◌, ◌++◌, length, get_or, set, Some, None, Result, Ok, Err, refl, sym, ap, subst, ◌∙◌, arith}
use Rattle.std.specs.Prelude.{remove, IfSome, IfNone}
use Rattle.std.specs.Result.{result_ok}
use Rattle.std.specs.List.Sorted.{IsSearchInRange, IsBinarySearchResult, IsNonDecreasingBy}
use Rattle.std.specs.Ordering.{nat_cmp, ordering_index}
use Rattle.std.proofs.lemmas.Cmp.{ranked}
use Rattle.std.proofs.lemmas.Bool.{cond_both}
use Rattle.std.proofs.lemmas.Bool.Decides.{nat_tests}
use Rattle.mc_table.specs.Entries.{entry_of, updated, without}
use Rattle.mc_table.specs.Rises.{Rises, IsAt}

module _ {T : Type 0} where
  -- a lower number to rise from
  rises_lower : (lower low : ℕ) (es : List (ℕ × T)) (next : ℕ) → lower ≤ low → Rises low es next → Rises lower es next
  rises_lower lower low [] next le rises = omega (arith, le, rises)
  rises_lower lower low (e ∷ es) next le rises = (omega (arith, le, rises.0), rises.1)

  -- no entry has a number below the lowest
  absent_below : (low : ℕ) (es : List (ℕ × T)) (next number : ℕ) → Rises low es next → number < low → entry_of es number ≡ None
  absent_below low [] next number rises lt = refl
  absent_below low (e ∷ es) next number rises lt =
      let again = absent_below (e.0 + 1) es next number rises.1 (omega (arith, rises.0, lt)) in
      grind (arith, nat_tests, again, rises.0, lt)

  -- the next number is above the lowest
  lowest_next : (low : ℕ) (es : List (ℕ × T)) (next : ℕ) → Rises low es next → low ≤ next
  lowest_next low [] next rises = rises
  lowest_next low (e ∷ es) next rises = omega (arith, rises.0, lowest_next (e.0 + 1) es next rises.1)

  -- no entry has it
  pub absent_next : (low : ℕ) (es : List (ℕ × T)) (next : ℕ) → Rises low es next → entry_of es next ≡ None
  absent_next low [] next rises = refl
  absent_next low (e ∷ es) next rises =
      let again = absent_next (e.0 + 1) es next rises.1 in
      let below : e.0 + 1 ≤ next = lowest_next (e.0 + 1) es next rises.1 in
      grind (arith, nat_tests, again, below)

  -- one more entry, under the next number
  pub rises_push : (low : ℕ) (es : List (ℕ × T)) (next : ℕ) (value : T) → Rises low es next → Rises low (es ++ (next, value) ∷ []) (next + 1)
  rises_push low [] next value rises = (rises, omega arith)
  rises_push low (e ∷ es) next value rises = (rises.0, rises_push (e.0 + 1) es next value rises.1)

  -- an entry is removed
  pub rises_without : (low : ℕ) (es : List (ℕ × T)) (next number : ℕ) → Rises low es next → Rises low (without number es) next
  rises_without low [] next number rises = rises
  rises_without low (e ∷ es) next number rises =
      let again = rises_without (e.0 + 1) es next number rises.1 in
      cond_both (e.0 == number) es (e ∷ without number es) (λ (l : List (ℕ × T)). Rises low l next)
      (λ _. rises_lower low (e.0 + 1) es next (omega (arith, rises.0)) rises.1) (λ _. (rises.0, again))

  -- the entry at a place is changed
  rises_set : (low : ℕ) (es : List (ℕ × T)) (next place : ℕ) (default : ℕ × T) (value : T) → Rises low es next → Rises low (set es place ((get_or es place default).0, value)) next
  rises_set low [] next place default value rises = rises
  rises_set low (e ∷ es) next zero default value rises = rises
  rises_set low (e ∷ es) next (suc place) default value rises = (rises.0, rises_set (e.0 + 1) es next place default value rises.1)

  pub rises_lent : (low : ℕ) (es : List (ℕ × T)) (next place : ℕ) (own : ℕ × T) (value : T) → own ≡ get_or es place own → Rises low es next → Rises low (set es place (own.0, value)) next
  rises_lent low es next place own value is rises =
      subst (λ (n : ℕ). Rises low (set es place (n, value)) next) (ap (λ (e : ℕ × T). e.0) (sym is)) (rises_set low es next place own value rises)

  -- what was removed is not among the others
  pub without_own : (low : ℕ) (es : List (ℕ × T)) (next number : ℕ) → Rises low es next → entry_of (without number es) number ≡ None
  without_own low [] next number rises = refl
  without_own low (e ∷ es) next number rises =
      let again = without_own (e.0 + 1) es next number rises.1 in
      let own : e.0 ≡ number → entry_of es number ≡ None = λ same. absent_below (e.0 + 1) es next number rises.1 (omega (arith, same)) in
      grind (arith, nat_tests, again, own)

  -- an entry's number is no lower than the lowest
  number_from : (low : ℕ) (es : List (ℕ × T)) (next place : ℕ) (default : ℕ × T) → Rises low es next → place < length es → low ≤ (get_or es place default).0
  number_from low [] next place default rises inside = absurd (omega arith)
  number_from low (e ∷ es) next zero default rises inside = rises.0
  number_from low (e ∷ es) next (suc place) default rises inside =
      omega (arith, rises.0, number_from (e.0 + 1) es next place default rises.1 (omega arith))

  -- what is at a place of the number is the entry of it
  pub entry_at : (low : ℕ) (es : List (ℕ × T)) (next number place : ℕ) (default : ℕ × T) → Rises low es next → place < length es → (get_or es place default).0 ≡ number
      → entry_of es number ≡ Some (get_or es place default).1
  entry_at low [] next number place default rises inside is = absurd (omega arith)
  entry_at low (e ∷ es) next number zero default rises inside is = grind (arith, nat_tests, is)
  entry_at low (e ∷ es) next number (suc place) default rises inside is =
      let above = number_from (e.0 + 1) es next place default rises.1 (omega arith) in
      grind (arith, nat_tests, is, above, entry_at (e.0 + 1) es next number place default rises.1 (omega arith) is)

  -- it is the one that is updated
  set_at : (low : ℕ) (es : List (ℕ × T)) (next number place : ℕ) (default : ℕ × T) (after : T) → Rises low es next → place < length es → (get_or es place default).0 ≡ number
      → set es place (number, after) ≡ updated number after es
  set_at low [] next number place default after rises inside is = absurd (omega arith)
  set_at low (e ∷ es) next number zero default after rises inside is = grind (arith, nat_tests, is)
  set_at low (e ∷ es) next number (suc place) default after rises inside is =
      let above = number_from (e.0 + 1) es next place default rises.1 (omega arith) in
      grind (arith, nat_tests, is, above, set_at (e.0 + 1) es next number place default after rises.1 (omega arith) is)

  -- the one that is removed
  remove_at : (low : ℕ) (es : List (ℕ × T)) (next number place : ℕ) (default : ℕ × T) → Rises low es next → place < length es → (get_or es place default).0 ≡ number
      → remove es place ≡ without number es
  remove_at low [] next number place default rises inside is = absurd (omega arith)
  remove_at low (e ∷ es) next number zero default rises inside is = grind (arith, nat_tests, is)
  remove_at low (e ∷ es) next number (suc place) default rises inside is =
      let above = number_from (e.0 + 1) es next place default rises.1 (omega arith) in
      grind (arith, nat_tests, is, above, remove_at (e.0 + 1) es next number place default rises.1 (omega arith) is)

  -- the numbers rise with the places
  numbers_rise : (low : ℕ) (es : List (ℕ × T)) (next i j : ℕ) (default : ℕ × T) → Rises low es next → i ≤ j → j < length es → (get_or es i default).0 ≤ (get_or es j default).0
  numbers_rise low [] next i j default rises le inside = absurd (omega arith)
  numbers_rise low (e ∷ es) next zero zero default rises le inside = omega arith
  numbers_rise low (e ∷ es) next zero (suc j) default rises le inside =
      omega (arith, number_from (e.0 + 1) es next j default rises.1 (omega arith))
  numbers_rise low (e ∷ es) next (suc i) zero default rises le inside = absurd (omega arith)
  numbers_rise low (e ∷ es) next (suc i) (suc j) default rises le inside =
      numbers_rise (e.0 + 1) es next i j default rises.1 (omega arith) (omega arith)

  -- a number that is at no place has no entry
  none_at : (es : List (ℕ × T)) (number : ℕ) → ((i : ℕ) (default : ℕ × T) → i < length es → (get_or es i default).0 ≢ number) → entry_of es number ≡ None
  none_at [] number none = refl
  none_at (e ∷ es) number none =
      grind (arith, nat_tests, none 0 e (omega arith), none_at es number (λ i default lt. none (suc i) default (omega arith)))

  -- a search by halves ends at the entry of the number, or there is none
  pub searched : (low : ℕ) (es : List (ℕ × T)) (next : ℕ) → Rises low es next → (number : ℕ) (r : Result ℕ ℕ) → IsSearchInRange r (length es)
      → IsBinarySearchResult (λ (e : ℕ × T). nat_cmp e.0 number) es r
      → record { found : IfSome (result_ok r) (IsAt es number); absent : IfNone (result_ok r) (entry_of es number ≡ None) }
  searched low es next rises number (Ok place) inside equal = record {
    found = record { inside = inside; has_number = λ default. ranked _ number _ (sym (equal default)) };
    absent = tt;
  }
  searched low es next rises number (Err place) inside parted =
      let comparisons_rise : IsNonDecreasingBy (λ (e : ℕ × T). ordering_index (nat_cmp e.0 number)) es =
      λ i j default le last. let le_number = numbers_rise low es next i j default rises le last in grind (arith, nat_tests) in
      record {
        found = tt;
        absent = none_at es number (λ i default lt same.
            grind (
              arith,
              λ (below : i < place). ranked _ number _ (sym ((parted comparisons_rise).0 i default (omega arith) below)),
              λ (above : place ≤ i). ranked _ number _ (sym ((parted comparisons_rise).1 i default above lt)),
            ));
      }

  -- what was read at the number's index is its entry
  pub entry_there : (es : List (ℕ × T)) (next number place : ℕ) (own : ℕ × T) → Rises 0 es next → IsAt es number place → own ≡ get_or es place own → Some own.1 ≡ entry_of es number
  entry_there es next number place own rises at is =
      ap (λ (e : ℕ × T). Some e.1) is ∙ sym (entry_at 0 es next number place own rises at.inside (at.has_number own))

  -- what is written there updates it
  pub set_there : (es : List (ℕ × T)) (next number place : ℕ) (after : T) → Rises 0 es next → IsAt es number place
      → set es place ((get_or es place (0, after)).0, after) ≡ updated number after es
  set_there es next number place after rises at =
      ap (λ (n : ℕ). set es place (n, after)) (at.has_number (0, after)) ∙ set_at 0 es next number place (0, after) after rises at.inside (at.has_number (0, after))

  -- what is removed there is what had the number
  pub remove_there : (es : List (ℕ × T)) (next number place : ℕ) (own : T) → Rises 0 es next → IsAt es number place → remove es place ≡ without number es
  remove_there es next number place own rises at = remove_at 0 es next number place (0, own) rises at.inside (at.has_number (0, own))
