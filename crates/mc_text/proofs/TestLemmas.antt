-- Tests of the bytes of a text.
use Rattle.std.proofs.Common.{◌≡◌, ℕ, ◌+◌, ◌*◌, ◌-◌, ◌≤◌, Bool, true, false, not, ◌&&◌, cond, eqb, List, [], ◌∷◌, take, drop, map, refl, sym, ap, ◌∙◌, arith, take-add}
use Rattle.std.proofs.lemmas.List.{take-append-drop}
use Rattle.std.proofs.lemmas.List.Folds.{list_all-append}
use Rattle.std.specs.List.{list_all}
use lib.Lanes.{mask_l}
use lib.Dec.{ltb}
use Rattle.mc_text.specs.Keys.{is_key_byte}
use Rattle.mc_text.specs.ByteTests.{is_from}

-- a byte that may be in a plain key is one from 33 on
key_byte : (b : ℕ) → is_from 33 b ≡ is_key_byte b
key_byte b = grind (arith)

pub key_bytes : (bytes : List ℕ) → list_all (is_from 33) bytes ≡ list_all is_key_byte bytes
key_bytes [] = refl
key_bytes (b ∷ bs) = rw (key_byte b, key_bytes bs) refl

-- no bit is set exactly if each element fails a test
unset : (m : Bool) (n : ℕ) → eqb (cond m 1 0 + 2 * n) 0 ≡ (not m && eqb n 0)
unset m n = grind (arith)

pub none_by_mask : (p : ℕ → Bool) (xs : List ℕ) → eqb (mask_l (map p xs)) 0 ≡ list_all (λ x. not (p x)) xs
none_by_mask p [] = refl
none_by_mask p (x ∷ xs) = unset (p x) (mask_l (map p xs)) ∙ ap (λ (v : Bool). not (p x) && v) (none_by_mask p xs)

four : (a b c d : Bool) → ((a && b) && (c && d)) ≡ ((a && c) && (b && d))
four true b true d = refl
four true true false d = refl
four true false false d = refl
four false b c d = refl

-- both tests of each element
pub both : (p q : ℕ → Bool) (xs : List ℕ) → (list_all p xs && list_all q xs) ≡ list_all (λ x. p x && q x) xs
both p q [] = refl
both p q (x ∷ xs) = four (p x) (list_all p xs) (q x) (list_all q xs) ∙ ap (λ (v : Bool). (p x && q x) && v) (both p q xs)

from_both : (least b : ℕ) → (not (ltb b least) && not (eqb b 127)) ≡ is_from least b
from_both least b = grind (arith)

from_each : (least : ℕ) (xs : List ℕ) → list_all (λ x. not (ltb x least) && not (eqb x 127)) xs ≡ list_all (is_from least) xs
from_each least [] = refl
from_each least (x ∷ xs) = rw (from_both least x, from_each least xs) refl

-- no element is below the least, and none is 127
pub from_parts : (least : ℕ) (xs : List ℕ)
    → (list_all (λ x. not (ltb x least)) xs && list_all (λ x. not (eqb x 127)) xs) ≡ list_all (is_from least) xs
from_parts least xs = both (λ x. not (ltb x least)) (λ x. not (eqb x 127)) xs ∙ from_each least xs

pub second_part : (a b c : Bool) → a ≡ true → (a && b) ≡ c → b ≡ c
second_part true b c is h = h
second_part false b c is h = absurd cc

pub first_part : (a b c : Bool) → a ≡ false → (a && b) ≡ c → a ≡ c
first_part true b c is h = absurd cc
first_part false b c is h = h

and_again : (a b c : Bool) → ((a && b) && (b && c)) ≡ (a && (b && c))
and_again true true c = refl
and_again true false c = refl
and_again false b c = refl

-- the elements before a place, and those from a place before it on, are all
pub overlap : (p : ℕ → Bool) (xs : List ℕ) (n m : ℕ) → m ≤ n → (list_all p (take n xs) && list_all p (drop m xs)) ≡ list_all p xs
overlap p xs n m le =
    let k : ℕ = n - m in
    let a = list_all p (take m xs) in
    let b = list_all p (take k (drop m xs)) in
    let d = list_all p (drop k (drop m xs)) in
    let front : list_all p (take n xs) ≡ (a && b) =
    ap (λ (i : ℕ). list_all p (take i xs)) (omega arith) ∙ ap (list_all p) (take-add m k xs) ∙ list_all-append p (take m xs) (take k (drop m xs)) in
    let back : list_all p (drop m xs) ≡ (b && d) =
    ap (list_all p) (sym (take-append-drop k (drop m xs))) ∙ list_all-append p (take k (drop m xs)) (drop k (drop m xs)) in
    let all : list_all p xs ≡ (a && (b && d)) =
    ap (list_all p) (sym (take-append-drop m xs)) ∙ list_all-append p (take m xs) (drop m xs) ∙ ap (λ (v : Bool). a && v) back in
    rw (front, back, all) (and_again a b d)

and_no : (a : Bool) → (a && false) ≡ false
and_no true = refl
and_no false = refl

-- if those from a place on fail, so do all
pub fails_later : (p : ℕ → Bool) (xs : List ℕ) (m : ℕ) → list_all p (drop m xs) ≡ false → list_all p xs ≡ false
fails_later p xs m fails = sym (overlap p xs m m (omega arith)) ∙ rw fails (and_no (list_all p (take m xs)))
