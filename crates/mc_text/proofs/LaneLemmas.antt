-- The first place of a byte, by the bytes that are looked at together.
use Rattle.std.proofs.Common.{◌≡◌, ℕ, ◌+◌, ◌-◌, ◌<◌, ◌≤◌, ◌==◌, Bool, true, false, not, List, [], ◌∷◌, length, take, drop, get_or, Some, None, inl, inr, refl, sym, ap, ◌∙◌, arith}
use Rattle.std.proofs.lemmas.Bool.{cases_lt}
use Rattle.std.proofs.lemmas.List.{get_or-drop, length-drop}
use Rattle.std.proofs.lemmas.Simd.{run_in_chunk_fails, run_in_chunk_stops}
use Rattle.std.specs.List.{prefix_len}
use Rattle.memchr.specs.Find.{IsFirstByte, Nowhere, Passes, is_byte}

-- a byte of what is left is one of the text
same : (text : List ℕ) (passed k : ℕ) (byte : ℕ) → (get_or (drop passed text) k 0 == byte) ≡ (get_or text (passed + k) 0 == byte)
same text passed k byte = ap (λ (b : ℕ). b == byte) (get_or-drop passed text k 0)

-- no byte that was passed is it, nor one of the first that are left
pub nowhere_further : (byte : ℕ) (text : List ℕ) (passed n : ℕ) → Nowhere (Passes (is_byte byte) text) 0 passed
    → Nowhere (Passes (is_byte byte) (drop passed text)) 0 n → Nowhere (Passes (is_byte byte) text) 0 (passed + n)
nowhere_further byte text passed n before after k low high here = elim (cases_lt k passed) [
  | inl lt ↦ before k low lt here
  | inr ge ↦
      let is : passed + (k - passed) ≡ k = omega arith in
      after (k - passed) (omega arith) (omega arith) (same text passed (k - passed) byte ∙ ap (λ (i : ℕ). get_or text i 0 == byte) is ∙ here)
]

-- the first place in what is left is that of the text
pub first_further : (byte : ℕ) (text : List ℕ) (passed k : ℕ) → passed ≤ length text → Nowhere (Passes (is_byte byte) text) 0 passed
    → IsFirstByte (is_byte byte) (drop passed text) (Some k) → IsFirstByte (is_byte byte) text (Some (passed + k))
first_further byte text passed k le before first =
    let high = first.0.high in
    let size = length-drop passed text in (
      record { low = omega arith; high = omega (arith, high, size); before = nowhere_further byte text passed k before first.0.before },
      sym (same text passed k byte) ∙ first.1,
    )

-- likewise if it is nowhere in it
pub none_further : (byte : ℕ) (text : List ℕ) (passed : ℕ) → passed ≤ length text → Nowhere (Passes (is_byte byte) text) 0 passed
    → IsFirstByte (is_byte byte) (drop passed text) None → IsFirstByte (is_byte byte) text None
none_further byte text passed le before none k low high here =
    nowhere_further byte text passed (length (drop passed text)) before none k low (omega (arith, high, length-drop passed text)) here

absurd_bool : (b : Bool) → b ≡ false → b ≡ true → ⊥
absurd_bool b f t = cc

-- among bytes that are searched together, none before the first
pub nowhere_in_lanes : (byte : ℕ) (rest : List ℕ) (place : ℕ) → 16 ≤ length rest
    → place ≡ prefix_len (λ b. not (b == byte)) (take 16 rest) → Nowhere (Passes (is_byte byte) rest) 0 place
nowhere_in_lanes byte rest place le is k low high here =
    absurd_bool (get_or rest k 0 == byte) (run_in_chunk_fails (λ b. b == byte) rest 0 16 place 0 (omega arith) is k low (omega arith)) here

-- and the first of them
pub first_in_lanes : (byte : ℕ) (rest : List ℕ) (place : ℕ) → 16 ≤ length rest
    → place ≡ prefix_len (λ b. not (b == byte)) (take 16 rest) → place < 16 → IsFirstByte (is_byte byte) rest (Some place)
first_in_lanes byte rest place le is lt = (
  record { low = omega arith; high = omega arith; before = nowhere_in_lanes byte rest place le is },
  ap (λ (k : ℕ). get_or rest k 0 == byte) (omega arith) ∙ run_in_chunk_stops (λ b. b == byte) rest 0 16 place 0 (omega arith) is lt,
)

not_not : (b : Bool) → not (not b) ≡ b
not_not true = refl
not_not false = refl

-- a space is what is not another byte
pub run_of_spaces : (bytes : List ℕ) → prefix_len (λ b. not (not (b == 32))) bytes ≡ prefix_len (λ b. b == 32) bytes
run_of_spaces [] = refl
run_of_spaces (b ∷ bs) = rw (not_not (b == 32), run_of_spaces bs) refl
