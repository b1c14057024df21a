-- The line of a command, as a text's first request.
use Rattle.std.proofs.Common.{◌≡◌, ℕ, ℤ, suc, pos, negsuc, ◌+◌, ◌<◌, ◌≤◌, Bool, true, false, List, [], ◌∷◌, ◌++◌, length, Option, Some, None, nat_lt, decimal, codes, refl, ◌∙◌, arith, append_assoc, length-append}
use Rattle.std.proofs.Math.Seq.{take-append_seam, drop-append_seam, drop-append-add}
use Rattle.std.proofs.lemmas.Bool.{and_from}
use Rattle.std.proofs.lemmas.Bool.Decides.{nat_tests}
use Rattle.std.specs.Fmt.{signed_decimal}
use Rattle.std.specs.List.{list_all}
use Rattle.mc_text.specs.Lines as lines
use Rattle.mc_text.specs.Lines.{FirstLine, first_line}
use Rattle.mc_text.proofs.SpelledLemmas.{is_word, first_line-spelled, is_word-decimal, is_word-lettered, is_word-negative}
use Rattle.mc_request.specs.declared.parts.Request.{Request}
use Rattle.mc_request.specs.declared.parts.Parsed.TheVariants.{Whole}
use Rattle.mc_request.specs.Meanings.{PendingStore, Alone, Stores, meaning}
use Rattle.mc_request.specs.Requests.{taken_by, next_by, next_request, stored}
use Rattle.mc_request.specs.WellFormed.{is_i64, is_u64, is_where_some}
use Rattle.mc_codec.specs.Spellings.{spaced, block_lines, word_if, number_if, signed_if}
use Rattle.mc_codec.proofs.SpacedLemmas.{words-spaced, bytes_of_spaced, length-spaced}

-- words, at most `most` of them
pub record AreWords (most : ℕ) (ws : List (List ℕ)) : Type 0 where
  pub each : list_all is_word ws ≡ true
  pub few : length ws ≤ most

pub no_words : AreWords 0 []
no_words = record { each = refl; few = omega arith }

pub one_word : {n : ℕ} {ws : List (List ℕ)} (word : List ℕ) → is_word word ≡ true → AreWords n ws → AreWords (suc n) (word ∷ ws)
one_word {n} {ws} word is are = let few = are.few in record { each = and_from (is_word word) (list_all is_word ws) is are.each; few = omega arith }

pub as_many : {n : ℕ} {ws : List (List ℕ)} (m : ℕ) → n ≤ m → AreWords n ws → AreWords m ws
as_many m h are = let few = are.few in record { each = are.each; few = omega arith }

-- a word, if it is asked for
pub word_where : {n : ℕ} {ws : List (List ℕ)} (b : Bool) (word : List ℕ) → is_word word ≡ true → AreWords n ws → AreWords (suc n) (word_if b word ws)
word_where true word is are = one_word word is are
word_where {n} false word is are = as_many (suc n) (omega arith) are

-- a number after a letter, if there is one
pub number_where : {n : ℕ} {ws : List (List ℕ)} (letter : ℕ) (o : Option ℕ) → 32 < letter → is_where_some is_u64 o ≡ true → AreWords n ws
    → AreWords (suc n) (number_if (letter ∷ []) o ws)
number_where {n} letter None high h are = as_many (suc n) (omega arith) are
number_where letter (Some number) high h are =
    one_word (letter ∷ decimal number) (is_word-lettered letter number high (grind (arith, nat_tests, h))) are

-- a number with a sign is a word, alone and after a letter
pub is_word-signed : (z : ℤ) → is_i64 z ≡ true → is_word (signed_decimal z) ≡ true
is_word-signed (pos n) h = is_word-decimal n (grind (arith, nat_tests, h))
is_word-signed (negsuc n) h = is_word-lettered 45 (suc n) (omega arith) (grind (arith, nat_tests, h))

pub is_word-lettered_signed : (letter : ℕ) (z : ℤ) → 32 < letter → is_i64 z ≡ true → is_word (letter ∷ signed_decimal z) ≡ true
is_word-lettered_signed letter (pos n) high h = is_word-lettered letter n high (grind (arith, nat_tests, h))
is_word-lettered_signed letter (negsuc n) high h = is_word-negative letter (suc n) high (grind (arith, nat_tests, h))

pub signed_where : {n : ℕ} {ws : List (List ℕ)} (letter : ℕ) (o : Option ℤ) → 32 < letter → is_where_some is_i64 o ≡ true → AreWords n ws
    → AreWords (suc n) (signed_if (letter ∷ []) o ws)
signed_where {n} letter None high h are = as_many (suc n) (omega arith) are
signed_where letter (Some number) high h are = one_word (letter ∷ signed_decimal number) (is_word-lettered_signed letter number high h) are

by_first_line : (text : List ℕ) (l : FirstLine) → first_line text ≡ l → next_request text ≡ next_by l text
unfolding next_request
by_first_line text l e = rw e refl

-- the reader takes what the words of a line ask for
next_by_words : (word : List ℕ) (more : List (List ℕ)) (rest : List ℕ) → AreWords 20 (word ∷ more)
    → next_request (spaced (word ∷ more) ++ (13 ∷ 10 ∷ rest)) ≡ taken_by (meaning (word ∷ more)) (length (spaced (word ∷ more)) + 2) rest
next_by_words word more rest are =
    let content : List ℕ = spaced (word ∷ more) in
    let size = length-spaced (word ∷ more) are.each in
    let whole = first_line-spelled content rest (bytes_of_spaced (word ∷ more) are.each) (omega arith) in
    by_first_line (content ++ (13 ∷ 10 ∷ rest)) (lines.Whole content (length content + 2)) whole
    ∙ rw (words-spaced word more are.each, drop-append-add content (13 ∷ 10 ∷ rest) 2) refl

-- the text of a line and what is after it
after_line : (content block more : List ℕ) → (content ++ (codes "\r\n" ++ block)) ++ more ≡ content ++ (13 ∷ 10 ∷ (block ++ more))
after_line content block more = append_assoc content (13 ∷ 10 ∷ block) more

-- a line that no data block follows
pub next_alone : (word : List ℕ) (others : List (List ℕ)) (request : Request) (more : List ℕ) → AreWords 20 (word ∷ others) → meaning (word ∷ others) ≡ Alone (Whole request)
    → next_request ((spaced (word ∷ others) ++ (codes "\r\n" ++ block_lines None)) ++ more)
    ≡ Some (Whole request, length (spaced (word ∷ others) ++ (codes "\r\n" ++ block_lines None)))
next_alone word others request more are means = grind (arith, length-append, next_by_words, after_line)

-- a data block and its end, before what follows
block_ends : (block more : List ℕ) → (block ++ codes "\r\n") ++ more ≡ block ++ (13 ∷ 10 ∷ more)
block_ends block more = append_assoc block (13 ∷ 10 ∷ []) more

stored_by : (s : PendingStore) (block more : List ℕ) (line : ℕ)
    → taken_by (Stores s (length block)) line (block ++ (13 ∷ 10 ∷ more)) ≡ Some (Whole (stored s block), line + (length block + 2))
stored_by s block more line = grind (arith, nat_lt, length-append, take-append_seam, drop-append_seam, nat_tests)

-- a line with its data block
pub next_stored : (word : List ℕ) (others : List (List ℕ)) (s : PendingStore) (block more : List ℕ) → AreWords 20 (word ∷ others)
    → meaning (word ∷ others) ≡ Stores s (length block)
    → next_request ((spaced (word ∷ others) ++ (codes "\r\n" ++ block_lines (Some block))) ++ more)
    ≡ Some (Whole (stored s block), length (spaced (word ∷ others) ++ (codes "\r\n" ++ block_lines (Some block))))
next_stored word others s block more are means = grind (arith, codes, length-append, next_by_words, after_line, block_ends, stored_by)
