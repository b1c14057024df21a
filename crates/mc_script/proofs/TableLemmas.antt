-- The tables of escapes and of digits.
use Rattle.std.proofs.Common.{◌≡◌, ℕ, zero, suc, ◌+◌, ◌*◌, ◌<◌, ◌≤◌, List, [], ◌∷◌, ◌++◌, length, take, drop, map, get_or, Option, Some, None, IfSome, refl, ap, ◌∙◌, arith}
use Rattle.std.proofs.Math.Seq.{drop-append-add, take-append_seam}
use Rattle.std.proofs.lemmas.List.{length-append, length-take-le, take_all, take-append-le, take-take}
use Rattle.std.proofs.lemmas.List.FromFn.{get_or-map-range_with_len}
use Rattle.std.specs.List.{range_with_len}
use Rattle.std.specs.Option.{option_map_or}
use Rattle.mc_script.specs.Escapes.{escape_of, hex_value, letter_value}
use Rattle.mc_script.specs.declared.escape_tables.TheConstants.{DIGITS, ESCAPES, LETTERS, SIZES}

-- the length of a byte's escape
abbrev size_of : ℕ → ℕ
size_of b = length (escape_of b)

-- an escape, filled up to four bytes
abbrev filled : ℕ → List ℕ
filled b = take 4 (escape_of b ++ 32 ∷ 32 ∷ 32 ∷ [])

-- the filled escapes of this number of bytes, from one on
abbrev filled_from : ℕ → ℕ → List ℕ
filled_from first zero = []
filled_from first (suc n) = filled first ++ filled_from (first + 1) n

sizes_are : SIZES ≡ map size_of (range_with_len 0 256)
unfolding escape_of
sizes_are = refl

escapes_are : ESCAPES.now ≡ filled_from 0 256
unfolding escape_of
escapes_are = refl

-- the table of sizes has the length of each byte's escape
pub size_at : (b : ℕ) → b < 256 → get_or SIZES b 0 ≡ length (escape_of b)
size_at b h = ap (λ t. get_or t b 0) sizes_are ∙ get_or-map-range_with_len size_of 0 256 b b 0 h (omega arith)

-- an escape has at most four bytes
pub escape_short : (b : ℕ) → length (escape_of b) ≤ 4
unfolding escape_of
escape_short b = grind (arith)

-- an escape has at least one byte
escape_some : (b : ℕ) → 1 ≤ length (escape_of b)
unfolding escape_of
escape_some b = grind (arith)

filled_long : (b : ℕ) → length (filled b) ≡ 4
filled_long b = length-take-le 4 (escape_of b ++ 32 ∷ 32 ∷ 32 ∷ []) (omega (arith, length-append (escape_of b) (32 ∷ 32 ∷ 32 ∷ []), escape_some b))

-- the escape at an index of the filled ones
filled_from_at : (n first i : ℕ) → i < n → take 4 (drop (i * 4) (filled_from first n)) ≡ filled (first + i)
filled_from_at zero first i h = absurd (omega arith)
filled_from_at (suc n) first zero h =
    let rest : List ℕ = filled_from (first + 1) n in
    let here : first ≡ first + 0 = omega arith in
    take-append-le 4 (filled first) rest (omega (arith, filled_long first))
    ∙ take_all 4 (filled first) (omega (arith, filled_long first)) ∙ ap filled here
filled_from_at (suc n) first (suc i) h =
    let rest : List ℕ = filled_from (first + 1) n in
    let place : suc i * 4 ≡ length (filled first) + i * 4 = omega (arith, filled_long first) in
    let next : first + 1 + i ≡ first + suc i = omega arith in
    ap (λ (k : ℕ). take 4 (drop k (filled first ++ rest))) place ∙ ap (take 4) (drop-append-add (filled first) rest (i * 4))
    ∙ filled_from_at n (first + 1) i (omega arith) ∙ ap filled next

-- four bytes of the table from a byte's place on begin with its escape
pub escape_at : (b : ℕ) → b < 256 → take (length (escape_of b)) (take 4 (drop (4 * b) ESCAPES.now)) ≡ escape_of b
escape_at b h =
    let place : 4 * b ≡ b * 4 = omega arith in
    let same : 0 + b ≡ b = omega arith in
    let four : take 4 (drop (4 * b) ESCAPES.now) ≡ filled b =
    ap (λ (k : ℕ). take 4 (drop k ESCAPES.now)) place ∙ ap (λ (t : List ℕ). take 4 (drop (b * 4) t)) escapes_are ∙ filled_from_at 256 0 b h ∙ ap filled same in
    ap (take (length (escape_of b))) four ∙ take-take (length (escape_of b)) 4 (escape_of b ++ 32 ∷ 32 ∷ 32 ∷ []) (escape_short b)
    ∙ take-append_seam (escape_of b) (32 ∷ 32 ∷ 32 ∷ [])

-- the value of a byte as the table has it
abbrev value_or : ℕ → ℕ
value_or c = option_map_or (λ v. v) (hex_value c) 16

digits_are : DIGITS ≡ map value_or (range_with_len 0 256)
unfolding hex_value
digits_are = refl

value_small : (c : ℕ) → IfSome (hex_value c) (λ v. v < 16)
unfolding hex_value
value_small c = grind (arith)

value_at : (c : ℕ) → c < 256 → get_or DIGITS c 0 ≡ option_map_or (λ v. v) (hex_value c) 16
value_at c h = ap (λ t. get_or t c 0) digits_are ∙ get_or-map-range_with_len value_or 0 256 c c 0 h (omega arith)

some_value : (o : Option ℕ) (v : ℕ) → v ≡ option_map_or (λ w. w) o 16 → v < 16 → Some v ≡ o
some_value None v is lt = absurd (omega arith)
some_value (Some w) v is lt = ap (λ (k : ℕ). Some k) is

no_value : (o : Option ℕ) (v : ℕ) → IfSome o (λ w. w < 16) → v ≡ option_map_or (λ w. w) o 16 → 16 ≤ v → None ≡ o
no_value None v small is ge = refl
no_value (Some w) v small is ge = absurd (omega arith)

-- an entry below 16 in the table of digits is the digit's value, and a byte with another entry has none
pub value_is : (c : ℕ) → c < 256 → get_or DIGITS c 0 < 16 → Some (get_or DIGITS c 0) ≡ hex_value c
value_is c h lt = some_value (hex_value c) (get_or DIGITS c 0) (value_at c h) lt

pub value_none : (c : ℕ) → c < 256 → 16 ≤ get_or DIGITS c 0 → None ≡ hex_value c
value_none c h ge = no_value (hex_value c) (get_or DIGITS c 0) (value_small c) (value_at c h) ge

-- the byte of a letter as the table has it
abbrev letter_or : ℕ → ℕ
letter_or c = option_map_or (λ v. v) (letter_value c) 0

letters_are : LETTERS ≡ map letter_or (range_with_len 0 256)
unfolding letter_value
letters_are = refl

letter_at : (c : ℕ) → c < 256 → get_or LETTERS c 0 ≡ option_map_or (λ v. v) (letter_value c) 0
letter_at c h = ap (λ t. get_or t c 0) letters_are ∙ get_or-map-range_with_len letter_or 0 256 c c 0 h (omega arith)

letter_large : (c : ℕ) → IfSome (letter_value c) (λ v. 0 < v)
unfolding letter_value
letter_large c = grind (arith)

some_letter : (o : Option ℕ) (v : ℕ) → v ≡ option_map_or (λ w. w) o 0 → (v ≡ 0 → ⊥) → Some v ≡ o
some_letter None v is other = absurd (other is)
some_letter (Some w) v is other = ap (λ (k : ℕ). Some k) is

no_letter : (o : Option ℕ) (v : ℕ) → IfSome o (λ w. 0 < w) → v ≡ option_map_or (λ w. w) o 0 → v ≡ 0 → None ≡ o
no_letter None v large is none = refl
no_letter (Some w) v large is none = absurd (omega arith)

-- an entry other than 0 in the table of letters is the byte that the letter stands for, and a letter with entry 0
-- stands for none
pub letter_is : (c : ℕ) → c < 256 → (get_or LETTERS c 0 ≡ 0 → ⊥) → Some (get_or LETTERS c 0) ≡ letter_value c
letter_is c h other = some_letter (letter_value c) (get_or LETTERS c 0) (letter_at c h) other

pub letter_none : (c : ℕ) → c < 256 → get_or LETTERS c 0 ≡ 0 → None ≡ letter_value c
letter_none c h is = no_letter (letter_value c) (get_or LETTERS c 0) (letter_large c) (letter_at c h) is
