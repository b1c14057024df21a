-- How long numbers and the pieces of a line are, and that words in a line are its pieces.
use Rattle.std.proofs.Common.{◌≡◌, ℕ, ℤ, ◌+◌, ◌/◌, ◌%◌, ◌^◌, ◌<◌, ◌≤◌, ◌++◌, [], ◌∷◌, List, Bool, true, false, Option, Some, None, length, codes, refl, ap, sym, ◌∙◌, append_assoc, append-nil, arith}
use Rattle.std.specs.Fmt.{decimal, signed_decimal}
use Rattle.std.proofs.lemmas.List.{length-append}
use Rattle.std.proofs.lemmas.Fmt.{decimal_digit, decimal_step, length-decimal-le}
use Rattle.mc_text.specs.CodedKeys.{coded_of}
use Rattle.mc_request.specs.declared.meta.Counting.{Counting}
use Rattle.mc_request.specs.declared.meta.Creation.{Creation}
use Rattle.mc_request.specs.declared.meta.MetaCommand.TheVariants as metas
use Rattle.mc_request.specs.declared.meta.MetaGet.{MetaGet}
use Rattle.mc_request.specs.declared.meta.Show.{Show}
use Rattle.mc_request.specs.declared.parts.StoreMode.{StoreMode}
use Rattle.mc_request.specs.declared.parts.Update.TheVariants as updates
use Rattle.mc_codec.specs.Spellings.{word_if, number_if, signed_if, creation_words, mode_word, direction_word, mg_flags, ms_flags, ma_flags, meta_words, spaced}
use Rattle.mc_codec.specs.SpelledPieces.{after_spaces, piece_if, number_piece, signed_piece, creation_piece, mg_show_pieces, ms_show_pieces, ma_show_pieces}

-- how many digits a number has
pub one_digit : (n : ℕ) → n < 10 → length (decimal n) ≡ 1
one_digit n small = ap length (decimal_digit n small)

pub digits_by_ten : (n : ℕ) → 10 ≤ n → n < 2 ^ 64 → length (decimal n) ≡ length (decimal (n / 10)) + 1
digits_by_ten n large fits = ap length (decimal_step n large fits) ∙ length-append (decimal (n / 10)) ((48 + n % 10) ∷ [])

pub two_digits : (n : ℕ) → 10 ≤ n → n < 100 → length (decimal n) ≡ 2
two_digits n large small = omega (arith, digits_by_ten n large (omega arith), one_digit (n / 10) (omega arith))

pub three_digits : (n : ℕ) → 100 ≤ n → n < 1000 → length (decimal n) ≡ 3
three_digits n large small = omega (arith, digits_by_ten n (omega arith) (omega arith), two_digits (n / 10) (omega arith) (omega arith))

pub four_digits : (n : ℕ) → 1000 ≤ n → n < 10000 → length (decimal n) ≡ 4
four_digits n large small = omega (arith, digits_by_ten n (omega arith) (omega arith), three_digits (n / 10) (omega arith) (omega arith))

pub digits_by_four : (n : ℕ) → 10000 ≤ n → n < 2 ^ 64 → length (decimal n) ≡ length (decimal (n / 10000)) + 4
digits_by_four n large fits = grind (arith, digits_by_ten)

pub digits_bound : (n : ℕ) → n < 2 ^ 64 → length (decimal n) ≤ 20
digits_bound n fits = length-decimal-le 20 n (omega arith) (omega arith) fits

-- a line's words are its first and the others after a space each
pub spaced_is : (word : List ℕ) (words : List (List ℕ)) → spaced (word ∷ words) ≡ word ++ after_spaces words
spaced_is word [] = sym (append-nil word)
spaced_is word (other ∷ words) = ap (λ (rest : List ℕ). word ++ (codes " " ++ rest)) (spaced_is other words)

-- what is asked for is a piece
pub after_word_if : (asked : Bool) (word : List ℕ) (words : List (List ℕ)) → after_spaces (word_if asked word words) ≡ piece_if asked (32 ∷ word) ++ after_spaces words
after_word_if true word words = refl
after_word_if false word words = refl

pub after_number_if : (letter : List ℕ) (number : Option ℕ) (words : List (List ℕ)) → after_spaces (number_if letter number words) ≡ number_piece (32 ∷ letter) number ++ after_spaces words
after_number_if letter None words = refl
after_number_if letter (Some number) words = refl

pub after_signed_if : (letter : List ℕ) (number : Option ℤ) (words : List (List ℕ)) → after_spaces (signed_if letter number words) ≡ signed_piece (32 ∷ letter) number ++ after_spaces words
after_signed_if letter None words = refl
after_signed_if letter (Some number) words = refl

pub after_creation : (create : Option Creation) (words : List (List ℕ)) → after_spaces (creation_words create words) ≡ creation_piece create ++ after_spaces words
after_creation None words = refl
after_creation (Some creation) words = simp append_assoc

-- the flag words of each meta command, piece by piece, and how many bytes they have
pub mg_flags_are : (get : MetaGet) → after_spaces (mg_flags get)
    ≡ mg_show_pieces get.show ++ (signed_piece (codes " T") get.exptime ++ (signed_piece (codes " N") get.create ++ number_piece (codes " R") get.recache))
mg_flags_are get = simp (after_word_if, after_signed_if, after_number_if, append_assoc, append-nil)

pub mg_flags_length : (get : MetaGet) → length (after_spaces (mg_flags get))
    ≡ length (mg_show_pieces get.show) + length (signed_piece (codes " T") get.exptime) + length (signed_piece (codes " N") get.create) + length (number_piece (codes " R") get.recache)
mg_flags_length get = grind (arith, codes, length-append, mg_flags_are)

pub ms_flags_are : (mode : StoreMode) (compare : Option ℕ) (flags : ℕ) (exptime : ℤ) (show : Show) → after_spaces (ms_flags mode compare flags exptime show)
    ≡ ms_show_pieces show ++ ((codes " T" ++ signed_decimal exptime) ++ ((codes " F" ++ decimal flags) ++ (number_piece (codes " C") compare ++ (codes " " ++ mode_word mode))))
ms_flags_are mode compare flags exptime show = simp (after_word_if, after_number_if, append_assoc, append-nil)

pub ms_flags_length : (mode : StoreMode) (compare : Option ℕ) (flags : ℕ) (exptime : ℤ) (show : Show) → length (after_spaces (ms_flags mode compare flags exptime show))
    ≡ length (ms_show_pieces show) + 4 + length (signed_decimal exptime) + length (decimal flags) + length (number_piece (codes " C") compare) + length (codes " " ++ mode_word mode)
ms_flags_length mode compare flags exptime show = grind (arith, codes, length-append, ms_flags_are)

pub ma_flags_are : (counting : Counting) (show : Show) → after_spaces (ma_flags counting show)
    ≡ ma_show_pieces show ++ (signed_piece (codes " T") counting.exptime ++ (number_piece (codes " C") counting.compare
    ++ (creation_piece counting.create ++ ((codes " D" ++ decimal counting.delta) ++ (codes " " ++ direction_word counting.direction)))))
ma_flags_are counting show = simp (after_word_if, after_number_if, after_signed_if, after_creation, append_assoc, append-nil)

pub ma_flags_length : (counting : Counting) (show : Show) → length (after_spaces (ma_flags counting show))
    ≡ length (ma_show_pieces show) + length (signed_piece (codes " T") counting.exptime) + length (number_piece (codes " C") counting.compare)
    + length (creation_piece counting.create) + 2 + length (decimal counting.delta) + length (codes " " ++ direction_word counting.direction)
ma_flags_length counting show = grind (arith, codes, length-append, ma_flags_are)

-- the line of each meta command: its name and its key, and the flag words after them
pub mg_line_is : (key : List ℕ) (get : MetaGet) → spaced (meta_words (metas.Get key get)) ≡ (codes "mg " ++ coded_of key) ++ after_spaces (mg_flags get)
mg_line_is key get = spaced_is (codes "mg") (coded_of key ∷ mg_flags get)

pub ms_line_is : (mode : StoreMode) (compare : Option ℕ) (key : List ℕ) (flags : ℕ) (exptime : ℤ) (block : List ℕ) (show : Show)
    → spaced (meta_words (metas.Update (updates.Store mode compare key flags exptime block) show))
    ≡ (codes "ms " ++ coded_of key) ++ ((codes " " ++ decimal (length block)) ++ after_spaces (ms_flags mode compare flags exptime show))
ms_line_is mode compare key flags exptime block show = spaced_is (codes "ms") (coded_of key ∷ decimal (length block) ∷ ms_flags mode compare flags exptime show)

pub ma_line_is : (key : List ℕ) (counting : Counting) (show : Show)
    → spaced (meta_words (metas.Update (updates.Count key counting) show)) ≡ (codes "ma " ++ coded_of key) ++ after_spaces (ma_flags counting show)
ma_line_is key counting show = spaced_is (codes "ma") (coded_of key ∷ ma_flags counting show)

pub mg_line_length : (key : List ℕ) (get : MetaGet) → length (spaced (meta_words (metas.Get key get))) ≡ 3 + length (coded_of key) + length (after_spaces (mg_flags get))
mg_line_length key get = omega (arith, ap length (mg_line_is key get), length-append (codes "mg " ++ coded_of key) (after_spaces (mg_flags get)))

pub ms_line_length : (mode : StoreMode) (compare : Option ℕ) (key : List ℕ) (flags : ℕ) (exptime : ℤ) (block : List ℕ) (show : Show)
    → length (spaced (meta_words (metas.Update (updates.Store mode compare key flags exptime block) show)))
    ≡ 4 + length (coded_of key) + length (decimal (length block)) + length (after_spaces (ms_flags mode compare flags exptime show))
ms_line_length mode compare key flags exptime block show = grind (arith, codes, length-append, ms_line_is)

pub ma_line_length : (key : List ℕ) (counting : Counting) (show : Show)
    → length (spaced (meta_words (metas.Update (updates.Count key counting) show))) ≡ 3 + length (coded_of key) + length (after_spaces (ma_flags counting show))
ma_line_length key counting show = omega (arith, ap length (ma_line_is key counting show), length-append (codes "ma " ++ coded_of key) (after_spaces (ma_flags counting show)))
