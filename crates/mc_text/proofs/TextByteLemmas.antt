-- The lines and words of a text of bytes are bytes.
use Rattle.std.proofs.Common.{◌≡◌, ℕ, ◌-◌, ◌==◌, Bool, true, false, cond, List, [], ◌∷◌, length, take, filter, slice_index, refl, arith}
use Rattle.std.proofs.lemmas.Bool.{and_parts, and_from}
use Rattle.std.specs.List.{list_all, onto_first, slice_split}
use Rattle.std.specs.Str.Lines.{strip_carriage_return}
use Rattle.mc_text.specs.Lines.{first_line, Whole}
use Rattle.mc_text.specs.Words.{words}
use Rattle.mc_text.proofs.ByteLemmas.{is_byte, all_bytes, list_all-take}
use Rattle.mc_text.proofs.LineLemmas.{first_line_whole}

-- a choice between two lists that both pass
chosen : {A : Type 0} (p : A → Bool) (b : Bool) (xs ys : List A) → list_all p xs ≡ true → list_all p ys ≡ true → list_all p (cond b xs ys) ≡ true
chosen p true xs ys h k = h
chosen p false xs ys h k = k

bytes_onto_first : (b : ℕ) (parts : List (List ℕ)) → is_byte b ≡ true → list_all all_bytes parts ≡ true → list_all all_bytes (onto_first b parts) ≡ true
bytes_onto_first b [] is are = rw is refl
bytes_onto_first b (part ∷ parts) is are = rw is are

bytes_of_parts : (p : ℕ → Bool) (bytes : List ℕ) → all_bytes bytes ≡ true → list_all all_bytes (slice_split p bytes) ≡ true
bytes_of_parts p [] are = refl
bytes_of_parts p (b ∷ bs) are =
    let parts = and_parts (is_byte b) (all_bytes bs) are in
    let rest = bytes_of_parts p bs parts.1 in
    chosen all_bytes (p b) ([] ∷ slice_split p bs) (onto_first b (slice_split p bs)) rest (bytes_onto_first b (slice_split p bs) parts.0 rest)

kept : {A : Type 0} (p q : A → Bool) (xs : List A) → list_all p xs ≡ true → list_all p (filter q xs) ≡ true
kept p q [] h = refl
kept p q (x ∷ xs) h =
    let parts = and_parts (p x) (list_all p xs) h in
    let rest = kept p q xs parts.1 in
    chosen p (q x) (x ∷ filter q xs) (filter q xs) (and_from (p x) (list_all p (filter q xs)) parts.0 rest) rest

pub bytes_of_words : (content : List ℕ) → all_bytes content ≡ true → list_all all_bytes (words content) ≡ true
unfolding words
bytes_of_words content are = kept all_bytes _ (slice_split (λ b. b == 32) content) (bytes_of_parts (λ b. b == 32) content are)

bytes_stripped : (line : List ℕ) → all_bytes line ≡ true → all_bytes (strip_carriage_return line) ≡ true
bytes_stripped line are =
    chosen is_byte (slice_index line (length line - 1) == 13) (take (length line - 1) line) line (list_all-take is_byte (length line - 1) line are) are

pub bytes_of_line : (text content : List ℕ) (taken : ℕ) → all_bytes text ≡ true → first_line text ≡ Whole content taken → all_bytes content ≡ true
bytes_of_line text content taken are is = grind (arith, is_byte, list_all-take, first_line_whole, bytes_stripped)
