-- The law of forms, for spellings that are defined by other means.
use Rattle.std.proofs.Common.{◌≡◌, ◌≢◌, ℕ, ◌+◌, ◌-◌, ◌<◌, ◌≤◌, Bool, true, false, List, [], ◌∷◌, ◌++◌, length, drop, inl, inr, Result, Ok, Err, refl, sym, ap, ◌∙◌, arith}
use Rattle.std.proofs.lemmas.List.{append-nil, length-append, drop_at}
use Rattle.mc_text.specs.declared.unready.Unready.{Unready}
use Rattle.mc_text.specs.declared.unready.Unready.TheVariants.{More, Strange}
use Rattle.mc_text.specs.Forms.{Form, Done, Text, Or, Path, word, meant, or_if, read}
use Rattle.mc_text.proofs.FieldLemmas.{append_split}
use Rattle.mc_text.proofs.FormLaws.{IsClear, IsRead, Waits, is_read}

-- a path of a form stands for a value that may be spelled, and spells it
pub record Holds {R : Type 0} (f : Form R) (may : R → Bool) (spell : R → List ℕ) (p : Path f) : Type 0 where
  pub value : R
  pub means : meant f p ≡ value
  pub allowed : may value ≡ true
  pub spelled : word f p ≡ spell value

-- a value has a path, and is spelled so
pub record Spells {R : Type 0} (f : Form R) (r : R) (s : List ℕ) : Type 0 where
  pub path : Path f
  pub means : meant f path ≡ r
  pub spelled : word f path ≡ s

-- a clear form spells what may be spelled, and nothing else
pub record Covers {R : Type 0} (f : Form R) (may : R → Bool) (spell : R → List ℕ) : Type 0 where
  pub clear : IsClear f
  pub of_path : (p : Path f) → Holds f may spell p
  pub to_path : (r : R) → may r ≡ true → Spells f r (spell r)

-- FROM PATHS, part by part

pub of_line : {R : Type 0} (may : R → Bool) (spell : R → List ℕ) (text : List ℕ) (r : R) → may r ≡ true → spell r ≡ text
    → (p : Path (Text text (Done r))) → Holds (Text text (Done r)) may spell p
of_line may spell text r can same p = record { value = r; means = refl; allowed = can; spelled = append-nil text ∙ sym same }

pub of_or : {R : Type 0} (may : R → Bool) (spell : R → List ℕ) (f g : Form R) → ((p : Path f) → Holds f may spell p) → ((q : Path g) → Holds g may spell q)
    → (p : Path (Or f g)) → Holds (Or f g) may spell p
of_or may spell f g hf hg (inl p) =
    let s = hf p in record { value = s.value; means = s.means; allowed = s.allowed; spelled = s.spelled }
of_or may spell f g hf hg (inr p) =
    let s = hg p in record { value = s.value; means = s.means; allowed = s.allowed; spelled = s.spelled }

pub of_or_if : {R : Type 0} (may : R → Bool) (spell : R → List ℕ) (there : Bool) (f g : Form R) → (there ≡ true → (p : Path f) → Holds f may spell p)
    → ((q : Path g) → Holds g may spell q) → (p : Path (or_if there f g)) → Holds (or_if there f g) may spell p
of_or_if may spell true f g hf hg p = of_or may spell f g (hf refl) hg p
of_or_if may spell false f g hf hg p = hg p

-- TO PATHS, part by part

pub to_line : {R : Type 0} (text : List ℕ) (r : R) → Spells (Text text (Done r)) r text
to_line text r = record { path = tt; means = refl; spelled = append-nil text }

pub to_left : {R : Type 0} (f g : Form R) (r : R) (s : List ℕ) → Spells f r s → Spells (Or f g) r s
to_left f g r s h = record { path = inl h.path; means = h.means; spelled = h.spelled }

pub to_right : {R : Type 0} (f g : Form R) (r : R) (s : List ℕ) → Spells g r s → Spells (Or f g) r s
to_right f g r s h = record { path = inr h.path; means = h.means; spelled = h.spelled }

pub to_if : {R : Type 0} (there : Bool) (f g : Form R) (r : R) (s : List ℕ) → there ≡ true → Spells f r s → Spells (or_if there f g) r s
to_if true f g r s e h = to_left f g r s h
to_if false f g r s e h = absurd (cc)

pub to_after : {R : Type 0} (there : Bool) (f g : Form R) (r : R) (s : List ℕ) → Spells g r s → Spells (or_if there f g) r s
to_after true f g r s h = to_right f g r s h
to_after false f g r s h = h

-- bytes that begin with a spelling, and what is left
pub record Begins {R : Type 0} (may : R → Bool) (spell : R → List ℕ) (u : List ℕ) (x : R × List ℕ) : Type 0 where
  pub allowed : may x.0 ≡ true
  pub spelled : u ≡ spell x.0 ++ x.1

-- bytes that are the beginning of a spelling, and less than all of it
pub record Begun {R : Type 0} (may : R → Bool) (spell : R → List ℕ) (u : List ℕ) : Type 0 where
  pub value : R
  pub allowed : may value ≡ true
  pub more : List ℕ
  pub missing : 0 < length more
  pub spelled : u ++ more ≡ spell value

-- they are, and so are those and what follows, as long as that is fewer than n bytes
pub record BegunFor {R : Type 0} (may : R → Bool) (spell : R → List ℕ) (u : List ℕ) (n : ℕ) : Type 0 where
  pub some : 0 < n
  pub begun : (more : List ℕ) → length more < n → Begun may spell (u ++ more)

covered : {R : Type 0} (f : Form R) (may : R → Bool) (spell : R → List ℕ) → Covers f may spell → IsRead f
covered f may spell h = is_read f h.clear

pub read_ok : {R : Type 0} (f : Form R) (may : R → Bool) (spell : R → List ℕ) → Covers f may spell
    → (u : List ℕ) (x : R × List ℕ) → read f u ≡ Ok x → Begins may spell u x
read_ok {R} f may spell h u x e =
    let found = (covered f may spell h).found u x e in
    let holds = h.of_path found.path in
    let same : holds.value ≡ x.0 = sym holds.means ∙ found.means in
    record {
      allowed = ap may (sym same) ∙ holds.allowed;
      spelled = found.spelled ∙ ap (λ (w : List ℕ). w ++ x.1) (holds.spelled ∙ ap spell same);
    }

pub read_more : {R : Type 0} (f : Form R) (may : R → Bool) (spell : R → List ℕ) → Covers f may spell
    → (u : List ℕ) (n : ℕ) → read f u ≡ Err (More n) → BegunFor may spell u n
read_more f may spell h u n e =
    let rests = (covered f may spell h).begun u n e in
    record {
      some = rests.some;
      begun = λ more few.
          let begun = rests.begun more few in
          let holds = h.of_path begun.path in
          record { value = holds.value; allowed = holds.allowed; more = begun.next ∷ begun.more; missing = omega arith; spelled = begun.spelled ∙ holds.spelled };
    }

pub read_whole : {R : Type 0} (f : Form R) (may : R → Bool) (spell : R → List ℕ) → Covers f may spell
    → (r : R) (left : List ℕ) → may r ≡ true → read f (spell r ++ left) ≡ Ok (r, left)
read_whole {R} f may spell h r left can =
    let p = h.to_path r can in
    ap (λ (w : List ℕ). read f (w ++ left)) (sym p.spelled) ∙ (covered f may spell h).whole p.path left ∙ ap (λ (r : R). Ok (r, left)) p.means

pub read_short : {R : Type 0} (f : Form R) (may : R → Bool) (spell : R → List ℕ) → Covers f may spell
    → (r : R) (u : List ℕ) (b : ℕ) (more : List ℕ) → may r ≡ true → u ++ b ∷ more ≡ spell r → Waits (read f u)
read_short f may spell h r u b more can e =
    let p = h.to_path r can in
    (covered f may spell h).short p.path u b more (e ∙ sym p.spelled)

strange_ok : {A : Type 0} (x : A) → Err Strange ≡ Ok x → ⊥
strange_ok x e = absurd (cc)

strange_waits : {A : Type 0} (r : Result A Unready) (n : ℕ) → r ≡ Err Strange → r ≡ Err (More n) → ⊥
strange_waits r n e f = absurd (cc)

ok_same : {A : Type 0} (x y : A) (r : Result A Unready) → r ≡ Ok x → r ≡ Ok y → x ≡ y
ok_same x y r e f = cc

pub read_strange : {R : Type 0} (f : Form R) (may : R → Bool) (spell : R → List ℕ) → Covers f may spell
    → (u : List ℕ) → read f u ≡ Err Strange → (r : R) (more others : List ℕ) → may r ≡ true → u ++ more ≢ spell r ++ others
read_strange {R} f may spell h u e r more others can same = elim (append_split u more (spell r) others same) [
  | inl s ↦ begun s.0 s.1
  | inr s ↦ strange_ok (r, s.0) (sym e ∙ ap (read f) s.1 ∙ read_whole f may spell h r s.0 can)
]
  where
    begun : (z : List ℕ) → spell r ≡ u ++ z → ⊥
    begun [] g =
        let all : u ≡ spell r ++ [] = sym (append-nil u) ∙ sym g ∙ sym (append-nil (spell r)) in
        strange_ok (r, []) (sym e ∙ ap (read f) all ∙ read_whole f may spell h r [] can)
    begun (b ∷ z) g =
        let waits = read_short f may spell h r u b z can (sym g) in
        strange_waits (read f u) waits.0 e waits.1

-- no spelling begins another, and each is of one value
pub are_apart : {R : Type 0} (f : Form R) (may : R → Bool) (spell : R → List ℕ) → Covers f may spell
    → (r q : R) (xs ys : List ℕ) → may r ≡ true → may q ≡ true → spell r ++ xs ≡ spell q ++ ys → (r ≡ q) × (xs ≡ ys)
are_apart {R} f may spell h r q xs ys cr cq e =
    let pair = ok_same (r, xs) (q, ys) (read f (spell r ++ xs)) (read_whole f may spell h r xs cr) (ap (read f) e ∙ read_whole f may spell h q ys cq) in
    (ap (λ (x : R × List ℕ). x.0) pair, ap (λ (x : R × List ℕ). x.1) pair)

-- the rest after the consumed bytes
pub drop-taken : (u left s : List ℕ) → u ≡ s ++ left → (length left ≤ length u) × (drop (length u - length left) u ≡ left)
drop-taken u left s e =
    let sizes : length u ≡ length s + length left = ap (length {A = ℕ}) e ∙ length-append s left in
    let taken : length u - length left ≡ length s = omega arith in
    (omega arith, rw taken (ap (drop (length s)) e ∙ drop_at s left (length s) refl))
