-- The words of keys in base64 are words.
use Rattle.std.proofs.Common.{◌≡◌, ℕ, zero, suc, ◌+◌, ◌*◌, ◌/◌, ◌%◌, ◌<◌, true, List, [], ◌∷◌, replicate, slice_index, nat_lt, nat_le, refl, arith}
use Rattle.std.proofs.lemmas.Bool.{and_parts, and_from}
use Rattle.std.proofs.lemmas.Bool.Decides.{nat_tests}
use Rattle.std.proofs.lemmas.List.Folds.{list_all-append}
use Rattle.std.specs.List.{list_all}
use Rattle.base64.specs.Engines.{standard}
use Rattle.base64.specs.Rfc4648.{encode_symbols}
use Rattle.mc_text.specs.CodedKeys.{coded_of}
use Rattle.mc_text.specs.Keys.{is_key}
use Rattle.mc_text.proofs.ByteLemmas.{is_byte, all_bytes, list_all-at}
use Rattle.mc_text.proofs.CodedLemmas.{length-coded_of}
use Rattle.mc_text.proofs.SpelledLemmas.{is_word, is_word_byte, is_word-by}

-- a table of symbols that are bytes of words
abbrev AreSymbols : List ℕ → Type 0
AreSymbols t = (i : ℕ) → i < 64 → is_word_byte (slice_index t i) ≡ true

byte : (b : ℕ) (bs : List ℕ) → all_bytes (b ∷ bs) ≡ true → (b < 256) × (all_bytes bs ≡ true)
byte b bs h = let parts = and_parts (is_byte b) (all_bytes bs) h in let small = parts.0 in (grind (arith, nat_tests, small), parts.1)

symbols_of_bytes : (t bytes : List ℕ) → AreSymbols t → all_bytes bytes ≡ true → list_all is_word_byte (encode_symbols t bytes) ≡ true
unfolding encode_symbols
symbols_of_bytes t [] are h = refl
symbols_of_bytes t (a ∷ []) are h = grind (arith, byte)
symbols_of_bytes t (a ∷ b ∷ []) are h = grind (arith, byte)
symbols_of_bytes t (a ∷ b ∷ c ∷ rest) are h =
    let x = byte a (b ∷ c ∷ rest) h in
    let y = byte b (c ∷ rest) x.1 in
    let z = byte c rest y.1 in
    let one = are (a / 4) (omega (arith, x.0)) in
    let two = are (a % 4 * 16 + b / 16) (omega (arith, y.0)) in
    let three = are (b % 16 * 4 + c / 64) (omega (arith, z.0)) in
    let four = are (c % 64) (omega arith) in
    rw (one, two, three, four) (symbols_of_bytes t rest are z.1)

padding_bytes : (n : ℕ) → list_all is_word_byte (replicate n 61) ≡ true
padding_bytes zero = refl
padding_bytes (suc n) = padding_bytes n

standard_symbols : AreSymbols standard.encode_table
standard_symbols i small = list_all-at is_word_byte standard.encode_table i refl small

coded_bytes : (key : List ℕ) → all_bytes key ≡ true → list_all is_word_byte (coded_of key) ≡ true
unfolding coded_of
coded_bytes key are =
    let symbols = symbols_of_bytes standard.encode_table key standard_symbols are in
    grind (arith, replicate, and_from, list_all-append, is_word_byte, padding_bytes)

pub is_word-coded : (key : List ℕ) → is_key key ≡ true → all_bytes key ≡ true → is_word (coded_of key) ≡ true
is_word-coded key valid are = grind (arith, nat_lt, nat_le, and_parts, nat_tests, length-coded_of, is_word-by, coded_bytes)
