-- What the spellings of a form begin with, and what follows if no two begin alike.
use Rattle.std.proofs.Common.{◌≡◌, ℕ, ◌+◌, ◌/◌, ◌%◌, ◌^◌, ◌<◌, ◌≤◌, ◌==◌, ◌&&◌, Bool, true, false, List, [], ◌∷◌, ◌++◌, ◌⊎◌, inl, inr, Option, Some, None, if◌then◌else◌, refl, sym, ap, subst, ◌∙◌, arith}
use Rattle.std.specs.Prelude.{not}
use Rattle.std.specs.Fmt.{decimal}
use Rattle.std.proofs.lemmas.Fmt.{decimal_by_steps}
use Rattle.std.proofs.lemmas.List.{append_assoc}
use Rattle.std.proofs.lemmas.Bool.Decides.{nat_tests}
use Rattle.mc_text.specs.Forms.{Form, Done, Text, Number, Block, Or, Path, word, number_if, is_digit}
use Rattle.mc_text.proofs.FieldLemmas.{StartsPlain}
use Rattle.mc_text.proofs.FormLaws.{IsPlain, AreApart, IsClear}

-- what each alternative of a form begins with: a digit, or these bytes
pub data Lead : Type 0 where
  Digit : Lead
  Bytes : List ℕ → Lead

-- one for each alternative of a form
abbrev pub leads : {R : Type 0} → Form R → List Lead
leads (Done r) = Bytes [] ∷ []
leads (Text text f) = Bytes text ∷ []
leads (Number most f) = Digit ∷ []
leads (Block size f) = Bytes [] ∷ []
leads (Or f g) = leads f ++ leads g

abbrev pub is_plain : Lead → Bool
is_plain Digit = false
is_plain (Bytes []) = false
is_plain (Bytes (b ∷ bs)) = not (is_digit b)

abbrev pub bytes_differ : List ℕ → List ℕ → Bool
bytes_differ [] bs = false
bytes_differ (a ∷ xs) [] = false
bytes_differ (a ∷ xs) (b ∷ ys) = if a == b then bytes_differ xs ys else true

abbrev pub differ : Lead → Lead → Bool
differ Digit b = is_plain b
differ (Bytes a) Digit = is_plain (Bytes a)
differ (Bytes a) (Bytes b) = bytes_differ a b

abbrev pub all : (Lead → Bool) → List Lead → Bool
all test [] = true
all test (l ∷ ls) = test l && all test ls

-- no two alternatives begin alike
abbrev pub all_differ : List Lead → List Lead → Bool
all_differ ls ms = all (λ l. all (λ m. differ l m) ms) ls

abbrev BeginsBy : Lead → List ℕ → Type 0
BeginsBy Digit [] = ⊥
BeginsBy Digit (b ∷ w) = is_digit b ≡ true
BeginsBy (Bytes bytes) w = (z : List ℕ) × (w ≡ bytes ++ z)

abbrev Begins : List Lead → List ℕ → Type 0
Begins [] w = ⊥
Begins (l ∷ ls) w = BeginsBy l w ⊎ Begins ls w

begins-left : (ls ms : List Lead) (w : List ℕ) → Begins ls w → Begins (ls ++ ms) w
begins-left [] ms w h = absurd h
begins-left (l ∷ ls) ms w h = elim h [ inl here ↦ inl here | inr there ↦ inr (begins-left ls ms w there) ]

begins-right : (ls ms : List Lead) (w : List ℕ) → Begins ms w → Begins (ls ++ ms) w
begins-right [] ms w h = h
begins-right (l ∷ ls) ms w h = inr (begins-right ls ms w h)

-- a number begins with a digit
abbrev HasDigit : ℕ → List ℕ → Type 0
HasDigit n ds = (w : List ℕ) → BeginsBy Digit (ds ++ w)

digit_more : (n : ℕ) (ds : List ℕ) → 10 ≤ n → HasDigit (n / 10) ds → HasDigit n (ds ++ ((48 + n % 10) ∷ []))
digit_more n ds long h w = subst (BeginsBy Digit) (sym (append_assoc ds ((48 + n % 10) ∷ []) w)) (h (((48 + n % 10) ∷ []) ++ w))

digit_first : (n : ℕ) → n < 2 ^ 64 → HasDigit n (decimal n)
digit_first n bound = decimal_by_steps HasDigit (λ n small w. let digit : is_digit (48 + n) ≡ true = grind (arith, nat_tests) in digit) digit_more n bound

-- each spelling begins with a lead of its form
begins : {R : Type 0} (f : Form R) → IsClear f → (p : Path f) → Begins (leads f) (word f p)
begins (Done r) clear p = inl ([], refl)
begins (Text t f) clear p = inl (word f p, refl)
begins (Number most f) clear p = inl (digit_first p.0 (let fits : p.0 ≤ most = p.1 in let bound : most < 2 ^ 64 = clear.0 in omega arith) (word (f p.0) p.2))
begins (Block size f) clear p = inl (word (Block size f) p, refl)
begins (Or f g) clear (inl p) = begins-left (leads f) (leads g) (word f p) (begins f clear.0 p)
begins (Or f g) clear (inr p) = begins-right (leads f) (leads g) (word g p) (begins g clear.1 p)

both : (a b : Bool) → (a && b) ≡ true → (a ≡ true) × (b ≡ true)
both true b h = (refl, h)
both false b h = absurd (cc)

not_true : (b : Bool) → not b ≡ true → b ≡ false
not_true true h = absurd (cc)
not_true false h = refl

plain_by : (l : Lead) (w : List ℕ) → is_plain l ≡ true → BeginsBy l w → StartsPlain w
plain_by Digit w h b = absurd (cc)
plain_by (Bytes []) w h b = absurd (cc)
plain_by (Bytes (c ∷ bytes)) w h b = subst StartsPlain (sym b.1) (not_true (is_digit c) h)

plain_all : (ls : List Lead) (w : List ℕ) → all is_plain ls ≡ true → Begins ls w → StartsPlain w
plain_all [] w h b = absurd b
plain_all (l ∷ ls) w h b =
    let here = both (is_plain l) (all is_plain ls) h in
    elim b [ inl first ↦ plain_by l w here.0 first | inr rest ↦ plain_all ls w here.1 rest ]

-- a form none of whose leads is a digit
pub plain : {R : Type 0} (f : Form R) → IsClear f → all is_plain (leads f) ≡ true → IsPlain f
plain f clear h p = plain_all (leads f) (word f p) h (begins f clear p)

bytes_apart : (a b x y : List ℕ) → bytes_differ a b ≡ true → a ++ x ≡ b ++ y → ⊥
bytes_apart [] b x y h e = absurd (cc)
bytes_apart (c ∷ a) [] x y h e = absurd (cc)
bytes_apart (c ∷ a) (d ∷ b) x y h e =
    let same : (c == d) ≡ true = let eq : c ≡ d = cc in grind (arith, nat_tests, eq) in
    bytes_apart a b x y (rw same at h) (cc)

plain_digit : (w v xs ys : List ℕ) → BeginsBy Digit w → StartsPlain v → w ++ xs ≡ v ++ ys → ⊥
plain_digit [] v xs ys h k e = absurd h
plain_digit (b ∷ w) [] xs ys h k e = absurd k
plain_digit (b ∷ w) (c ∷ v) xs ys h k e =
    let same : b ≡ c = cc in
    let digit : is_digit c ≡ true = ap is_digit (sym same) ∙ h in
    absurd (let never : true ≡ false = sym digit ∙ k in cc)

apart_by : (l m : Lead) (w v xs ys : List ℕ) → differ l m ≡ true → BeginsBy l w → BeginsBy m v → w ++ xs ≡ v ++ ys → ⊥
apart_by Digit m w v xs ys h b c e = plain_digit w v xs ys b (plain_by m v h c) e
apart_by (Bytes l) Digit w v xs ys h b c e = plain_digit v w ys xs c (plain_by (Bytes l) w h b) (sym e)
apart_by (Bytes l) (Bytes m) w v xs ys h b c e =
    bytes_apart l m (b.0 ++ xs) (c.0 ++ ys) h
    (sym (append_assoc l b.0 xs) ∙ ap (λ r. r ++ xs) (sym b.1) ∙ e ∙ ap (λ r. r ++ ys) c.1 ∙ append_assoc m c.0 ys)

apart_one : (l : Lead) (ms : List Lead) (w v xs ys : List ℕ) → all (λ m. differ l m) ms ≡ true → BeginsBy l w → Begins ms v → w ++ xs ≡ v ++ ys → ⊥
apart_one l [] w v xs ys h b c e = absurd c
apart_one l (m ∷ ms) w v xs ys h b c e =
    let here = both (differ l m) (all (λ m. differ l m) ms) h in
    elim c [ inl first ↦ apart_by l m w v xs ys here.0 b first e | inr rest ↦ apart_one l ms w v xs ys here.1 b rest e ]

apart_all : (ls ms : List Lead) (w v xs ys : List ℕ) → all_differ ls ms ≡ true → Begins ls w → Begins ms v → w ++ xs ≡ v ++ ys → ⊥
apart_all [] ms w v xs ys h b c e = absurd b
apart_all (l ∷ ls) ms w v xs ys h b c e =
    let here = both (all (λ m. differ l m) ms) (all_differ ls ms) h in
    elim b [ inl first ↦ apart_one l ms w v xs ys here.0 first c e | inr rest ↦ apart_all ls ms w v xs ys here.1 rest c e ]

-- two forms of which no two leads agree
pub apart : {R : Type 0} (f g : Form R) → IsClear f → IsClear g → all_differ (leads f) (leads g) ≡ true → AreApart f g
apart f g cf cg h p q xs ys e = apart_all (leads f) (leads g) (word f p) (word g q) xs ys h (begins f cf p) (begins g cg q) e

pub clear_or : {R : Type 0} (f g : Form R) → IsClear f → IsClear g → all_differ (leads f) (leads g) ≡ true → IsClear (Or f g)
clear_or f g cf cg h = (cf, cg, apart f g cf cg h)

-- what may follow a number
pub record IsAfter {R : Type 0} (f : Form R) : Type 0 where
  pub clear : IsClear f
  pub leads : all is_plain (leads f) ≡ true

pub clear_number : {R : Type 0} (most : ℕ) (f : ℕ → Form R) → most < 2 ^ 64 → ((n : ℕ) → IsAfter (f n)) → IsClear (Number most f)
clear_number most f bound h = (bound, λ n. plain (f n) (h n).clear (h n).leads, λ n. (h n).clear)

-- a form without numbers and blocks is clear if no two of its alternatives begin alike
abbrev pub are_clear : {R : Type 0} → Form R → Bool
are_clear (Done r) = true
are_clear (Text text f) = are_clear f
are_clear (Number most f) = false
are_clear (Block size f) = false
are_clear (Or f g) = (are_clear f && are_clear g) && all_differ (leads f) (leads g)

pub clear_lines : {R : Type 0} (f : Form R) → are_clear f ≡ true → IsClear f
clear_lines (Done r) h = tt
clear_lines (Text text f) h = clear_lines f h
clear_lines (Number most f) h = absurd (cc)
clear_lines (Block size f) h = absurd (cc)
clear_lines (Or f g) h =
    let sides = both (are_clear f && are_clear g) (all_differ (leads f) (leads g)) h in
    let each = both (are_clear f) (are_clear g) sides.0 in
    clear_or f g (clear_lines f each.0) (clear_lines g each.1) sides.1

-- a number that may be asked for, after a text that begins with no digit
pub after_number_if : {R : Type 0} (asked : Bool) (text : List ℕ) (most : ℕ) (f : Option ℕ → Form R) → is_plain (Bytes text) ≡ true → most < 2 ^ 64
    → ((n : Option ℕ) → IsAfter (f n)) → IsAfter (number_if asked text most f)
after_number_if true text most f starts bound h = record { clear = clear_number most (λ n. f (Some n)) bound (λ n. h (Some n)); leads = starts_and starts }
  where
    starts_and : is_plain (Bytes text) ≡ true → (is_plain (Bytes text) && true) ≡ true
    starts_and e = rw e refl
after_number_if false text most f starts bound h = h None
