-- Lines of a text and their numbers.
use Rattle.std.proofs.Common.{◌≡◌, ℕ, ◌+◌, ◌<◌, Bool, true, false, List, [], ◌∷◌, length, take, drop, get_or, Some, None, refl, arith, eqb}
use Rattle.std.proofs.lemmas.List.Splits.{slice_split_first, slice_split_none}
use Rattle.std.proofs.lemmas.List.Sums.{position_or_len_is}
use Rattle.std.proofs.lemmas.List.Elements.{All-from_get_or}
use Rattle.std.specs.List.{position_or_len}
use Rattle.memchr.specs.Find.{IsFirstByte, is_byte}
use Rattle.mc_script.specs.Lines.{lines_from, with_line}

-- a test that does not pass
pub not_true : (b : Bool) → ((b ≡ true) → ⊥) → b ≡ false
not_true true h = absurd (h refl)
not_true false h = refl

-- the lines of a text, by the index of its first line feed
pub lines_from-found : (text : List ℕ) (end n : ℕ) → IsFirstByte (is_byte 10) text (Some end)
    → lines_from n text ≡ with_line n (take end text) (lines_from (n + 1) (drop (end + 1) text))
unfolding lines_from
lines_from-found text end n first =
    let p = λ (b : ℕ). eqb b 10 in
    let high : end < length text = first.0.high in
    let is : position_or_len p text ≡ end = position_or_len_is p text end 0 (omega arith) (λ k lt. not_true (eqb (get_or text k 0) 10) (first.0.before k (omega arith) lt)) (λ _. first.1) in
    rw (slice_split_first p text 0 (omega arith), is) refl

pub lines_from-none : (text : List ℕ) (n : ℕ) → IsFirstByte (is_byte 10) text None
    → lines_from n text ≡ with_line n text (lines_from (n + 1) [])
unfolding lines_from
lines_from-none text n nowhere =
    let p = λ (b : ℕ). eqb b 10 in
    rw (slice_split_none p text (All-from_get_or (λ b. p b ≡ false) text 0 (λ k lt. not_true (eqb (get_or text k 0) 10) (nowhere k (omega arith) lt)))) refl

-- a text of no bytes has no line
pub lines_from-nil : (n : ℕ) (text : List ℕ) → length text ≡ 0 → lines_from n text ≡ []
unfolding lines_from
lines_from-nil n [] e = refl
lines_from-nil n (b ∷ bs) e = absurd (omega arith)
