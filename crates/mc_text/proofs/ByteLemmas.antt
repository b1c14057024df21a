-- Facts of every byte of a text.
use Rattle.std.proofs.Common.{◌≡◌, ℕ, zero, suc, ◌<◌, Bool, true, List, [], ◌∷◌, length, take, drop, get_or, nat_lt, refl, arith}
use Rattle.std.proofs.lemmas.Bool.{and_parts, and_from}
use Rattle.std.proofs.lemmas.Bool.Decides.{nat_tests}
use Rattle.std.proofs.lemmas.List.Sums.{AllPass-from_list_all}
use Rattle.std.specs.List.{All, list_all}

abbrev pub is_byte : ℕ → Bool
is_byte b = nat_lt b 256

abbrev pub all_bytes : List ℕ → Bool
all_bytes bytes = list_all is_byte bytes

-- what passes one test passes a weaker one
pub list_all-weaker : (p q : ℕ → Bool) → ((b : ℕ) → p b ≡ true → q b ≡ true) → (bs : List ℕ) → list_all p bs ≡ true → list_all q bs ≡ true
list_all-weaker p q weaker [] h = refl
list_all-weaker p q weaker (b ∷ bs) h =
    let parts = and_parts (p b) (list_all p bs) h in
    and_from (q b) (list_all q bs) (weaker b parts.0) (list_all-weaker p q weaker bs parts.1)

-- what passes at a place
pub list_all-at : (p : ℕ → Bool) (bs : List ℕ) (k : ℕ) → list_all p bs ≡ true → k < length bs → p (get_or bs k 0) ≡ true
list_all-at p [] k h inside = absurd (omega arith)
list_all-at p (b ∷ bs) zero h inside = (and_parts (p b) (list_all p bs) h).0
list_all-at p (b ∷ bs) (suc k) h inside = list_all-at p bs k (and_parts (p b) (list_all p bs) h).1 (omega arith)

-- what passes in a front, and after one
pub list_all-take : (p : ℕ → Bool) (n : ℕ) (xs : List ℕ) → list_all p xs ≡ true → list_all p (take n xs) ≡ true
list_all-take p zero xs h = refl
list_all-take p (suc n) [] h = refl
list_all-take p (suc n) (x ∷ xs) h =
    let parts = and_parts (p x) (list_all p xs) h in
    and_from (p x) (list_all p (take n xs)) parts.0 (list_all-take p n xs parts.1)

pub list_all-drop : (p : ℕ → Bool) (n : ℕ) (xs : List ℕ) → list_all p xs ≡ true → list_all p (drop n xs) ≡ true
list_all-drop p zero xs h = h
list_all-drop p (suc n) [] h = refl
list_all-drop p (suc n) (x ∷ xs) h = list_all-drop p n xs (and_parts (p x) (list_all p xs) h).1

-- bytes, as laws say it of a list
pub bytes_all : (bs : List ℕ) → all_bytes bs ≡ true → All (λ b. b < 256) bs
bytes_all bs h k d inside = let small = AllPass-from_list_all is_byte bs h k d inside in grind (arith, nat_tests, small)
