-- Forms: what can be spelled, field by field, and how it is read. This project's own.
use Rattle.std.specs.Prelude.{ℕ, Bool, true, false, ◌≡◌, ◌+◌, ◌-◌, ◌*◌, ◌≤◌, ◌==◌, ◌&&◌, nat_lt, nat_le, List, [], ◌∷◌, ◌++◌, length, take, drop, ◌⊎◌, Option, Some, None, Result, Ok, Err, if◌then◌else◌}
use Rattle.std.specs.Fmt.{decimal}
use Rattle.std.proofs.Common.{inl, inr}
use Rattle.mc_text.specs.declared.unready.Unready.{Unready}
use Rattle.mc_text.specs.declared.unready.Unready.TheVariants.{More, Strange}

-- what can be spelled: a field, and the form of what follows it
pub data Form (R : Type 0) : Type 0 where
  -- nothing more: this is what was spelled
  Done : R → Form R
  -- these bytes
  Text : List ℕ → Form R → Form R
  -- a number of at most n, in decimal digits without a leading zero
  Number : ℕ → (ℕ → Form R) → Form R
  -- n bytes, whatever they are
  Block : ℕ → (List ℕ → Form R) → Form R
  -- one or the other
  Or : Form R → Form R → Form R

-- the values of a form's fields
abbrev pub Path : {R : Type 0} → Form R → Type 0
Path (Done r) = Unit {0}
Path (Text text f) = Path f
Path (Number most f) = (n : ℕ) × (n ≤ most) × Path (f n)
Path (Block size f) = (block : List ℕ) × (length block ≡ size) × Path (f block)
Path (Or f g) = Path f ⊎ Path g

-- how they are spelled
abbrev pub word : {R : Type 0} → (f : Form R) → Path f → List ℕ
word (Done r) p = []
word (Text text f) p = text ++ word f p
word (Number most f) p = decimal p.0 ++ word (f p.0) p.2
word (Block size f) p = p.0 ++ word (f p.0) p.2
word (Or f g) (inl p) = word f p
word (Or f g) (inr p) = word g p

-- what they stand for
abbrev pub meant : {R : Type 0} → (f : Form R) → Path f → R
meant (Done r) p = r
meant (Text text f) p = meant f p
meant (Number most f) p = meant (f p.0) p.2
meant (Block size f) p = meant (f p.0) p.2
meant (Or f g) (inl p) = meant f p
meant (Or f g) (inr p) = meant g p

-- an optional form, before another one
abbrev pub or_if : {R : Type 0} → Bool → Form R → Form R → Form R
or_if true f g = Or f g
or_if false f g = g

-- a number after a text, if it is asked for
abbrev pub number_if : {R : Type 0} → Bool → List ℕ → ℕ → (Option ℕ → Form R) → Form R
number_if true text most f = Text text (Number most (λ n. f (Some n)))
number_if false text most f = f None

-- a reading that goes on
infixl 10 ◌>>=◌
abbrev pub ◌>>=◌ : {A B : Type 0} → Result A Unready → (A → Result B Unready) → Result B Unready
(Ok x) >>= f = f x
(Err e) >>= f = Err e

-- the first reading, or if it is strange the second
abbrev pub or_else : {A : Type 0} → Result A Unready → Result A Unready → Result A Unready
or_else (Ok x) other = Ok x
or_else (Err (More wanted)) other = Err (More wanted)
or_else (Err Strange) other = other

-- the bytes after a text
unfoldable pub text_at : List ℕ → List ℕ → Result (List ℕ) Unready
text_at [] u = Ok u
text_at (t ∷ ts) [] = Err (More 1)
text_at (t ∷ ts) (b ∷ u) = if b == t then text_at ts u else Err Strange

-- a digit
abbrev pub is_digit : ℕ → Bool
is_digit b = nat_le 48 b && nat_le b 57

-- a number that has begun so, and the bytes after it, the first of which is no digit
unfoldable pub digits_at : ℕ → ℕ → List ℕ → Result (ℕ × List ℕ) Unready
digits_at most n [] = Err (More 1)
digits_at most n (b ∷ u) =
    if is_digit b then
    (if nat_lt 0 n && nat_le (10 * n + (b - 48)) most then digits_at most (10 * n + (b - 48)) u else Err Strange)
    else Ok (n, b ∷ u)

-- a number of at most n, and the bytes after it
unfoldable pub number_at : ℕ → List ℕ → Result (ℕ × List ℕ) Unready
number_at most [] = Err (More 1)
number_at most (b ∷ u) = if is_digit b && nat_le (b - 48) most then digits_at most (b - 48) u else Err Strange

-- n bytes, and those after them, of which one has arrived: that one may be strange
unfoldable pub block_at : ℕ → List ℕ → Result (List ℕ × List ℕ) Unready
block_at size u = if nat_lt size (length u) then Ok (take size u, drop size u) else Err (More (size - length u + 1))

-- what is at the front of the bytes, and the bytes after it
abbrev pub read : {R : Type 0} → Form R → List ℕ → Result (R × List ℕ) Unready
read (Done r) u = Ok (r, u)
read (Text text f) u = text_at text u >>= λ rest. read f rest
read (Number most f) u = number_at most u >>= λ x. read (f x.0) x.1
read (Block size f) u = block_at size u >>= λ x. read (f x.0) x.1
read (Or f g) u = or_else (read f u) (read g u)
