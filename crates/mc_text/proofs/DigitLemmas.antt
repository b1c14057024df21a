-- Digits that are read one by one.
use Rattle.std.proofs.Common.{◌≡◌, ℕ, ◌+◌, ◌*◌, ◌<◌, ◌≤◌, ◌^◌, Bool, true, false, ◌&&◌, List, [], ◌∷◌, length, drop, get_or, Some, None, ◌==◌, nat_lt, refl, sym, ◌∙◌, arith, drop-cons}
use Rattle.std.specs.Char.{is_ascii_digit, digit_value}
use Rattle.std.specs.List.{list_all}
use Rattle.std.specs.Str.Parse.{digits_value, digits_value_after}
use Rattle.std.proofs.lemmas.List.{drop_all}
use Rattle.std.proofs.lemmas.Bool.{eqb-false, lt-ltb, le-ltb, le-leb, ltb-false}
use Rattle.mc_text.specs.Numbers.{number, with_digit}

-- digits after a number make it no smaller
goes_on : (n : ℕ) (bytes : List ℕ) → n ≤ digits_value_after 10 n bytes
goes_on n [] = omega arith
goes_on n (b ∷ bs) = let more = goes_on (n * 10 + digit_value b) bs in omega (arith, more)

both_out : (a b : Bool) → b ≡ false → (a && b) ≡ false
both_out true b e = e
both_out false b e = refl

no_digit : (value byte : ℕ) (is under : Bool) → is_ascii_digit byte ≡ is → nat_lt (value * 10 + digit_value byte) (2 ^ 64) ≡ under
    → with_digit value byte ≡ None → (is && under) ≡ false
no_digit value byte true true e f h = absurd (let same = rw (e, f) at h in cc)
no_digit value byte true false e f h = refl
no_digit value byte false under e f h = refl

stops : (value byte : ℕ) (rest : List ℕ) (is under : Bool) → nat_lt (value * 10 + digit_value byte) (2 ^ 64) ≡ under → (is && under) ≡ false
    → ((is && list_all is_ascii_digit rest) && nat_lt (digits_value_after 10 (value * 10 + digit_value byte) rest) (2 ^ 64)) ≡ false
stops value byte rest true true f h = absurd cc
stops value byte rest false under f h = refl
stops value byte rest true false f h = grind (arith, nat_lt, le-ltb, ltb-false, goes_on, both_out)

-- if a byte is no digit, or the number is too large with it, there is none
pub stopped : (most : ℕ) (word : List ℕ) (value i : ℕ) → 0 < length word → length word ≤ most → i < length word
    → list_all is_ascii_digit (drop i word) ≡ list_all is_ascii_digit word → digits_value_after 10 value (drop i word) ≡ digits_value 10 word
    → with_digit value (get_or word i 0) ≡ None → number most (2 ^ 64) word ≡ None
stopped most word value i some fits inside all is none = grind (arith, get_or, nat_lt, drop-cons, lt-ltb, le-leb, no_digit, stops)

-- a word that was read to its end
pub read_whole : (most : ℕ) (word : List ℕ) (value i : ℕ) → 0 < length word → length word ≤ most → length word ≤ i → value < 2 ^ 64
    → list_all is_ascii_digit (drop i word) ≡ list_all is_ascii_digit word → digits_value_after 10 value (drop i word) ≡ digits_value 10 word
    → Some value ≡ number most (2 ^ 64) word
read_whole most word value i some fits end below all is = grind (arith, drop_all, lt-ltb, le-leb)

pub not_empty : (n : ℕ) (empty : Bool) → empty ≡ (n == 0) → empty ≡ false → 0 < n
not_empty n empty is e = let other = eqb-false n 0 (sym is ∙ e) in omega (arith, other)
