-- The words of a line that is spelled, and the request that it is read as.
use Rattle.std.proofs.Common.{◌≡◌, ℕ, ◌*◌, ◌≤◌, ◌==◌, Bool, true, false, List, [], ◌∷◌, length, filter, nat_lt, nat_le, refl, ap, ◌∙◌, arith, length-append}
use Rattle.std.proofs.lemmas.Bool.{and_parts, and_from}
use Rattle.std.proofs.lemmas.Bool.Decides.{nat_tests}
use Rattle.std.proofs.lemmas.List.Folds.{list_all-append}
use Rattle.std.proofs.lemmas.List.Splits.{slice_split_at, slice_split_none}
use Rattle.std.proofs.lemmas.List.Sums.{AllPass-from_list_all}
use Rattle.std.specs.List.{All, list_all, slice_split}
use Rattle.mc_text.specs.Words.{words}
use Rattle.mc_text.proofs.ByteLemmas.{list_all-weaker}
use Rattle.mc_text.proofs.SpelledLemmas.{is_word, is_word_byte, is_line_byte, line_byte}
use Rattle.mc_codec.specs.Spellings.{spaced}

abbrev is_space : ℕ → Bool
is_space b = b == 32

abbrev is_run : List ℕ → Bool
is_run word = nat_lt 0 (length word)

-- the parts of a word
word_parts : (word : List ℕ) → is_word word ≡ true → (nat_lt 0 (length word) ≡ true) × (length word ≤ 336) × (list_all is_word_byte word ≡ true)
word_parts word h = grind (arith, nat_lt, nat_le, and_parts, nat_tests, is_word_byte)

-- no byte of a word is a space
no_spaces : (word : List ℕ) → is_word word ≡ true → All (λ b. is_space b ≡ false) word
no_spaces word h k d inside =
    let bytes = (word_parts word h).2 in
    let high = AllPass-from_list_all is_word_byte word bytes k d inside in
    grind (arith, nat_tests, high)

-- words with a space between any two are those words again
parts_of_spaced : (word : List ℕ) (more : List (List ℕ)) → list_all is_word (word ∷ more) ≡ true → slice_split is_space (spaced (word ∷ more)) ≡ word ∷ more
parts_of_spaced word [] h = slice_split_none is_space word (no_spaces word (and_parts (is_word word) true h).0)
parts_of_spaced word (other ∷ more) h =
    let parts = and_parts (is_word word) (list_all is_word (other ∷ more)) h in
    slice_split_at is_space word 32 (spaced (other ∷ more)) (no_spaces word parts.0) refl
    ∙ ap (λ (ws : List (List ℕ)). word ∷ ws) (parts_of_spaced other more parts.1)

-- each of them is a run
all_runs : (ws : List (List ℕ)) → list_all is_word ws ≡ true → filter is_run ws ≡ ws
all_runs [] h = refl
all_runs (word ∷ more) h =
    let parts = and_parts (is_word word) (list_all is_word more) h in
    rw ((word_parts word parts.0).0) (ap (λ (ws : List (List ℕ)). word ∷ ws) (all_runs more parts.1))

pub words-spaced : (word : List ℕ) (more : List (List ℕ)) → list_all is_word (word ∷ more) ≡ true → words (spaced (word ∷ more)) ≡ word ∷ more
unfolding words
words-spaced word more h = ap (filter is_run) (parts_of_spaced word more h) ∙ all_runs (word ∷ more) h

-- the bytes of such a line
pub bytes_of_spaced : (ws : List (List ℕ)) → list_all is_word ws ≡ true → list_all is_line_byte (spaced ws) ≡ true
bytes_of_spaced [] h = refl
bytes_of_spaced (word ∷ []) h =
    list_all-weaker is_word_byte is_line_byte line_byte word (word_parts word (and_parts (is_word word) true h).0).2
bytes_of_spaced (word ∷ other ∷ more) h =
    let parts = and_parts (is_word word) (list_all is_word (other ∷ more)) h in
    let first = list_all-weaker is_word_byte is_line_byte line_byte word (word_parts word parts.0).2 in
    list_all-append is_line_byte word (32 ∷ spaced (other ∷ more))
    ∙ and_from (list_all is_line_byte word) _ first (bytes_of_spaced (other ∷ more) parts.1)

-- how long it is at most
pub length-spaced : (ws : List (List ℕ)) → list_all is_word ws ≡ true → length (spaced ws) ≤ 337 * length ws
length-spaced [] h = omega arith
length-spaced (word ∷ []) h = let parts = word_parts word (and_parts (is_word word) true h).0 in omega (arith, parts.1)
length-spaced (word ∷ other ∷ more) h =
    let parts = and_parts (is_word word) (list_all is_word (other ∷ more)) h in
    let first = word_parts word parts.0 in
    let rest = length-spaced (other ∷ more) parts.1 in
    omega (arith, first.1, rest, length-append word (32 ∷ spaced (other ∷ more)))
