-- Words that are spelled, and the line that holds them.
use Rattle.std.proofs.Common.{◌≡◌, ℕ, ◌+◌, ◌-◌, ◌<◌, ◌≤◌, ◌^◌, ◌&&◌, inl, inr, Bool, true, List, [], ◌∷◌, ◌++◌, length, take, Some, nat_lt, nat_le, eqb, decimal, refl, ◌∙◌, arith, append_assoc, length-append, length-take, get_or-take}
use Rattle.std.proofs.Math.Seq.{get_or-append_seam, get_or-append-add, take-append_seam}
use Rattle.std.proofs.lemmas.Bool.{and_parts, and_from, cases_lt}
use Rattle.std.proofs.lemmas.Bool.Decides.{nat_tests}
use Rattle.std.proofs.lemmas.Fmt.{decimal_nonempty, digits_decimal}
use Rattle.std.proofs.lemmas.List.{get_or_append_left}
use Rattle.std.specs.Char.{is_ascii_digit}
use Rattle.std.specs.List.{list_all}
use Rattle.std.specs.Str.Lines.{strip_carriage_return}
use Rattle.mc_text.specs.Keys.{is_key, is_key_byte, is_plain_key}
use Rattle.mc_text.specs.Lines.{line_end, first_line, Whole}
use Rattle.mc_text.proofs.ByteLemmas.{list_all-weaker, list_all-at}
use Rattle.mc_text.proofs.DecimalLemmas.{length-decimal_64}
use Rattle.mc_text.proofs.LineLemmas.{first_line-at}
use Rattle.mc_text.proofs.NumberLemmas.{own}
use Rattle.mc_text.proofs.PlaceLemmas.{position_at}

-- a byte that a word may have: no control byte and no space
abbrev pub is_word_byte : ℕ → Bool
is_word_byte b = nat_lt 32 b

-- a word as short as each that is spelled
abbrev pub is_word : List ℕ → Bool
is_word word = nat_lt 0 (length word) && nat_le (length word) 336 && list_all is_word_byte word

-- a byte that a line may have
abbrev pub is_line_byte : ℕ → Bool
is_line_byte b = nat_lt 13 b

pub is_word-by : (word : List ℕ) → 0 < length word → length word ≤ 336 → list_all is_word_byte word ≡ true → is_word word ≡ true
is_word-by word some short bytes =
    let nonempty : nat_lt 0 (length word) ≡ true = grind (arith, nat_tests, some) in
    let fits : nat_le (length word) 336 ≡ true = grind (arith, nat_tests, short) in
    rw (nonempty, fits, bytes) refl

digit_byte : (b : ℕ) → is_ascii_digit b ≡ true → is_word_byte b ≡ true
digit_byte b digit = grind (arith, nat_tests, digit)

key_byte : (b : ℕ) → is_key_byte b ≡ true → is_word_byte b ≡ true
key_byte b h = (and_parts (nat_lt 32 b) _ h).0

-- a byte that a word may have may be in a line
pub line_byte : (b : ℕ) → is_word_byte b ≡ true → is_line_byte b ≡ true
line_byte b h = grind (arith, nat_tests, h)

pub bytes_of_number : (n : ℕ) → n < 2 ^ 64 → list_all is_word_byte (decimal n) ≡ true
bytes_of_number n small = list_all-weaker is_ascii_digit is_word_byte digit_byte (decimal n) (digits_decimal own n small)

pub is_word-decimal : (n : ℕ) → n < 2 ^ 64 → is_word (decimal n) ≡ true
is_word-decimal n small =
    let few = length-decimal_64 n small in
    is_word-by (decimal n) (decimal_nonempty n small) (omega arith) (bytes_of_number n small)

-- a number after a letter
pub is_word-lettered : (letter n : ℕ) → 32 < letter → n < 2 ^ 64 → is_word (letter ∷ decimal n) ≡ true
is_word-lettered letter n high small =
    let few = length-decimal_64 n small in
    let first : is_word_byte letter ≡ true = grind (arith, nat_tests, high) in
    is_word-by (letter ∷ decimal n) (omega arith) (omega arith) (and_from (is_word_byte letter) _ first (bytes_of_number n small))

-- a negative number after a letter
pub is_word-negative : (letter n : ℕ) → 32 < letter → n < 2 ^ 64 → is_word (letter ∷ 45 ∷ decimal n) ≡ true
is_word-negative letter n high small =
    let few = length-decimal_64 n small in
    let first : is_word_byte letter ≡ true = grind (arith, nat_tests, high) in
    is_word-by (letter ∷ 45 ∷ decimal n) (omega arith) (omega arith) (and_from (is_word_byte letter) _ first (bytes_of_number n small))

pub is_word-key : (key : List ℕ) → is_plain_key key ≡ true → is_word key ≡ true
is_word-key key h =
    let parts = and_parts (is_key key) (list_all is_key_byte key) h in
    let size = and_parts (nat_lt 0 (length key)) (nat_le (length key) 250) parts.0 in
    let some : 0 < length key = grind (arith, nat_tests, size.0) in
    let short : length key ≤ 336 = grind (arith, nat_tests, size.1) in
    is_word-by key some short (list_all-weaker is_key_byte is_word_byte key_byte key parts.1)

-- the end of a line that is spelled with its end
line_end-spelled : (content rest : List ℕ) → list_all is_line_byte content ≡ true → length content + 2 ≤ 65536
    → line_end (content ++ (13 ∷ 10 ∷ rest)) ≡ Some (length content + 1)
unfolding line_end
line_end-spelled content rest plain short =
    let text : List ℕ = content ++ (13 ∷ 10 ∷ rest) in
    let size = length-append content (13 ∷ 10 ∷ rest) in
    position_at (λ b. eqb b 10) (take 65536 text) (length content + 1) (omega (arith, length-take 65536 text))
    (λ k lt. rw (get_or-take 65536 text k 0 (omega arith)) (elim (cases_lt k (length content)) [
      | inl inside ↦ let high = list_all-at is_line_byte content k plain inside in rw (get_or_append_left content (13 ∷ 10 ∷ rest) 0 k inside) (grind (arith, nat_tests, high))
      | inr last ↦ let is : k ≡ length content = omega arith in rw (is, get_or-append_seam content 13 (10 ∷ rest) 0) refl
    ]))
    (rw (get_or-take 65536 text (length content + 1) 0 (omega arith), get_or-append-add content (13 ∷ 10 ∷ rest) 1 0) refl)

-- a carriage return that is taken off
stripped : (content : List ℕ) → strip_carriage_return (content ++ (13 ∷ [])) ≡ content
stripped content =
    let size : length (content ++ (13 ∷ [])) - 1 ≡ length content = omega (arith, length-append content (13 ∷ [])) in
    rw (size, get_or-append_seam content 13 [] 0, take-append_seam content (13 ∷ [])) refl

-- a line that is spelled with its end is the first of its text
pub first_line-spelled : (content rest : List ℕ) → list_all is_line_byte content ≡ true → length content + 2 ≤ 65536
    → first_line (content ++ (13 ∷ 10 ∷ rest)) ≡ Whole content (length content + 2)
first_line-spelled content rest plain short =
    let cut : take (length content + 1) (content ++ (13 ∷ 10 ∷ rest)) ≡ content ++ (13 ∷ []) =
    let size : length (content ++ (13 ∷ [])) ≡ length content + 1 = length-append content (13 ∷ []) in
    rw (← size, ← append_assoc content (13 ∷ []) (10 ∷ rest)) (take-append_seam (content ++ (13 ∷ [])) (10 ∷ rest)) in
    let two : (length content + 1) + 1 ≡ length content + 2 = omega arith in
    first_line-at (content ++ (13 ∷ 10 ∷ rest)) (length content + 1) (line_end-spelled content rest plain short) ∙ rw (cut, stripped content, two) refl
