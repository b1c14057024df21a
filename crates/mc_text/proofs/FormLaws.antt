-- What is read is what is spelled.
use Rattle.std.proofs.Common.{◌≡◌, ℕ, ◌-◌, ◌^◌, ◌<◌, ◌≤◌, List, [], ◌∷◌, ◌++◌, length, replicate, ◌⊎◌, inl, inr, Result, Ok, Err, refl, sym, ap, subst, ◌∙◌, arith}
use Rattle.std.specs.Fmt.{decimal}
use Rattle.std.proofs.lemmas.List.{append_assoc, append-nil, length-append, length-replicate}
use Rattle.mc_text.specs.declared.unready.Unready.{Unready}
use Rattle.mc_text.specs.declared.unready.Unready.TheVariants.{More, Strange}
use Rattle.mc_text.specs.Forms.{Form, Done, Text, Number, Block, Or, Path, word, meant, read, or_else, ◌>>=◌, text_at, number_at, block_at}
use Rattle.mc_text.proofs.FieldLemmas.{StartsPlain, text_whole, text_found, text_more, text_short, number_whole, number_found, number_more, number_short, block_whole, block_found, block_more, block_short}

-- no spelling of a form begins with a digit
abbrev pub IsPlain : {R : Type 0} → Form R → Type 0
IsPlain f = (p : Path f) → StartsPlain (word f p)

-- no spelling of one form begins one of the other
abbrev pub AreApart : {R : Type 0} → Form R → Form R → Type 0
AreApart f g = (p : Path f) (q : Path g) (xs ys : List ℕ) → word f p ++ xs ≡ word g q ++ ys → ⊥

-- each spelling of a form has a byte
abbrev pub HasBytes : {R : Type 0} → Form R → Type 0
HasBytes f = (p : Path f) → 0 < length (word f p)

-- a number is followed by something other than a digit, a block by something, and two forms of which one is
-- spelled are apart
abbrev pub IsClear : {R : Type 0} → Form R → Type 0
IsClear (Done r) = Unit {0}
IsClear (Text text f) = IsClear f
IsClear (Number most f) = (most < 2 ^ 64) × ((n : ℕ) → IsPlain (f n)) × ((n : ℕ) → IsClear (f n))
IsClear (Block size f) = ((block : List ℕ) → HasBytes (f block)) × ((block : List ℕ) → IsClear (f block))
IsClear (Or f g) = IsClear f × IsClear g × AreApart f g

-- the bytes begin with a spelling, and this is left
pub record Found {R : Type 0} (f : Form R) (u : List ℕ) (x : R × List ℕ) : Type 0 where
  pub path : Path f
  pub means : meant f path ≡ x.0
  pub spelled : u ≡ word f path ++ x.1

-- the bytes are the beginning of a spelling, and less than all of it
pub record Begun {R : Type 0} (f : Form R) (u : List ℕ) : Type 0 where
  pub path : Path f
  pub next : ℕ
  pub more : List ℕ
  pub spelled : u ++ next ∷ more ≡ word f path

-- the bytes are such a beginning, and so are they with what follows, as long as that is fewer than n bytes
pub record BegunFor {R : Type 0} (f : Form R) (u : List ℕ) (n : ℕ) : Type 0 where
  pub some : 0 < n
  pub begun : (more : List ℕ) → length more < n → Begun f (u ++ more)

-- more is wanted
abbrev pub Waits : {A : Type 0} → Result A Unready → Type 0
Waits r = (n : ℕ) × (r ≡ Err (More n))

pub record IsRead {R : Type 0} (f : Form R) : Type 0 where
  pub whole : (p : Path f) (u : List ℕ) → read f (word f p ++ u) ≡ Ok (meant f p, u)
  pub short : (p : Path f) (u : List ℕ) (b : ℕ) (more : List ℕ) → u ++ b ∷ more ≡ word f p → Waits (read f u)
  pub found : (u : List ℕ) (x : R × List ℕ) → read f u ≡ Ok x → Found f u x
  pub begun : (u : List ℕ) (n : ℕ) → read f u ≡ Err (More n) → BegunFor f u n

-- if one byte is missing, the bytes themselves are a beginning
begun_one : {R : Type 0} (f : Form R) (u : List ℕ) (n : ℕ) → n ≡ 1 → Begun f u → BegunFor f u n
begun_one f u n one h = record { some = omega arith; begun = λ more few. with_none more (omega arith) }
  where
    with_none : (more : List ℕ) → length more ≡ 0 → Begun f (u ++ more)
    with_none [] e = subst (Begun f) (sym (append-nil u)) h
    with_none (b ∷ more) e = absurd (omega arith)

begun_now : {R : Type 0} (f : Form R) (u : List ℕ) (n : ℕ) → BegunFor f u n → Begun f u
begun_now f u n h = subst (Begun f) (append-nil u) (h.begun [] h.some)

-- a beginning after a field
begun_after : (front u s more w : List ℕ) (b : ℕ) (rest : List ℕ) → u ≡ front ++ s → (s ++ more) ++ b ∷ rest ≡ w → (u ++ more) ++ b ∷ rest ≡ front ++ w
begun_after front u s more w b rest e f =
    ap (λ (r : List ℕ). (r ++ more) ++ b ∷ rest) e ∙ ap (λ (r : List ℕ). r ++ b ∷ rest) (append_assoc front s more)
    ∙ append_assoc front (s ++ more) (b ∷ rest) ∙ ap (λ (r : List ℕ). front ++ r) f

-- each form has a spelling
pub some_path : {R : Type 0} → (f : Form R) → Path f
some_path (Done r) = tt
some_path (Text text f) = some_path f
some_path (Number most f) = (0, omega arith, some_path (f 0))
some_path (Block size f) = (replicate size 0, length-replicate size 0, some_path (f (replicate size 0)))
some_path (Or f g) = inl (some_path f)

-- a reading that goes on
bind_ok : {A B : Type 0} (r : Result A Unready) (f : A → Result B Unready) (y : B) → r >>= f ≡ Ok y → (x : A) × (r ≡ Ok x) × (f x ≡ Ok y)
bind_ok (Ok x) f y e = (x, refl, e)
bind_ok (Err d) f y e = absurd (cc)

bind_more : {A B : Type 0} (r : Result A Unready) (f : A → Result B Unready) (n : ℕ) → r >>= f ≡ Err (More n)
    → (r ≡ Err (More n)) ⊎ ((x : A) × (r ≡ Ok x) × (f x ≡ Err (More n)))
bind_more (Ok x) f n e = inr (x, refl, e)
bind_more (Err d) f n e = inl (let same : d ≡ More n = cc in ap (λ (d : Unready). Err d) same)

bind_waits : {A B : Type 0} (r : Result A Unready) (f : A → Result B Unready) (n : ℕ) → r ≡ Err (More n) → Waits (r >>= f)
bind_waits r f n e = (n, rw e refl)

bind_on : {A B : Type 0} (r : Result A Unready) (f : A → Result B Unready) (x : A) → r ≡ Ok x → Waits (f x) → Waits (r >>= f)
bind_on r f x e h = (h.0, rw e h.1)

-- nothing that is not empty is missing at the end of it
done_read : {R : Type 0} (r : R) → IsRead (Done r)
done_read r = record {
  whole = λ p u. refl;
  short = λ p u b more e. absurd (no_end u b more e);
  found = λ u x e. let is : (r, u) ≡ x = cc in rw (← is) (record { path = tt; means = refl; spelled = refl });
  begun = λ u n e. absurd (cc);
}
  where
    no_end : (u : List ℕ) (b : ℕ) (more : List ℕ) → u ++ b ∷ more ≡ [] → ⊥
    no_end [] b more e = absurd (cc)
    no_end (c ∷ u) b more e = absurd (cc)

text_read : {R : Type 0} (t : List ℕ) (f : Form R) → IsRead f → IsRead (Text t f)
text_read t f h = record {
  whole = λ p u.
      rw (append_assoc t (word f p) u, text_whole t (word f p ++ u)) (h.whole p u);
  short = λ p u b more e. elim (text_short t u (word f p) b more e) [
    | inl s ↦ bind_waits (text_at t u) (λ rest. read f rest) 1 s
    | inr s ↦ bind_on (text_at t u) (λ rest. read f rest) s.0 s.1 (h.short p s.0 b more s.2)
  ];
  found = λ u x e.
      let first = bind_ok (text_at t u) (λ rest. read f rest) x e in
      let rest = h.found first.0 x first.2 in
      record {
        path = rest.path;
        means = rest.means;
        spelled = text_found t u first.0 first.1 ∙ ap (λ r. t ++ r) rest.spelled ∙ sym (append_assoc t (word f rest.path) x.1);
      };
  begun = λ u n e. elim (bind_more (text_at t u) (λ rest. read f rest) n e) [
    | inl s ↦
        let left = text_more t u n s in
        let p = some_path f in
        begun_one (Text t f) u n left.0
        (record { path = p; next = left.1; more = left.2 ++ word f p; spelled = sym (append_assoc u (left.1 ∷ left.2) (word f p)) ∙ ap (λ r. r ++ word f p) left.3 })
    | inr s ↦
        let after = h.begun s.0 n s.2 in
        let front = text_found t u s.0 s.1 in
        record {
          some = after.some;
          begun = λ more few.
              let rest = after.begun more few in
              record { path = rest.path; next = rest.next; more = rest.more; spelled = begun_after t u s.0 more (word f rest.path) rest.next rest.more front rest.spelled };
        }
  ];
}

-- one byte more
split_one : (z w : List ℕ) → 0 < length w → (b : ℕ) × (more : List ℕ) × (z ++ w ≡ b ∷ more)
split_one [] [] p = absurd (omega arith)
split_one [] (b ∷ w) p = (b, w, refl)
split_one (c ∷ z) w p = (c, z ++ w, refl)

plain_long : (w : List ℕ) → StartsPlain w → 0 < length w
plain_long [] p = absurd p
plain_long (b ∷ w) p = omega arith

number_read : {R : Type 0} (most : ℕ) (f : ℕ → Form R) → most < 2 ^ 64 → ((n : ℕ) → IsPlain (f n)) → ((n : ℕ) → IsRead (f n)) → IsRead (Number most f)
number_read most f bound plain h = record {
  whole = λ p u.
      rw (append_assoc (decimal p.0) (word (f p.0) p.2) u, number_whole most p.0 (word (f p.0) p.2 ++ u) bound p.1 (plain_on (word (f p.0) p.2) u (plain p.0 p.2)))
      ((h p.0).whole p.2 u);
  short = λ p u b more e. elim (number_short most p.0 u (word (f p.0) p.2) b more bound p.1 (plain p.0 p.2) e) [
    | inl s ↦ bind_waits (number_at most u) (λ y. read (f y.0) y.1) 1 s
    | inr s ↦ bind_on (number_at most u) (λ y. read (f y.0) y.1) (p.0, s.0) s.1 ((h p.0).short p.2 s.0 b more s.2)
  ];
  found = λ u x e.
      let first = bind_ok (number_at most u) (λ y. read (f y.0) y.1) x e in
      let n = first.0.0 in
      let number = number_found most u first.0 bound first.1 in
      let rest = (h n).found first.0.1 x first.2 in
      record {
        path = (n, number.1, rest.path);
        means = rest.means;
        spelled = number.0 ∙ ap (λ r. decimal n ++ r) rest.spelled ∙ sym (append_assoc (decimal n) (word (f n) rest.path) x.1);
      };
  begun = λ u k e. elim (bind_more (number_at most u) (λ y. read (f y.0) y.1) k e) [
    | inl s ↦
        let left = number_more most u k bound s in
        let p = some_path (f left.1) in
        begun_one (Number most f) u k left.0 (begun_by u left.1 left.3 left.2 p left.4)
    | inr s ↦
        let n = s.0.0 in
        let number = number_found most u s.0 bound s.1 in
        let after = (h n).begun s.0.1 k s.2 in
        record {
          some = after.some;
          begun = λ more few.
              let rest = after.begun more few in
              record {
                path = (n, number.1, rest.path);
                next = rest.next;
                more = rest.more;
                spelled = begun_after (decimal n) u s.0.1 more (word (f n) rest.path) rest.next rest.more number.0 rest.spelled;
              };
        }
  ];
}
  where
    plain_on : (w u : List ℕ) → StartsPlain w → StartsPlain (w ++ u)
    plain_on [] u p = absurd p
    plain_on (b ∷ w) u p = p

    begun_by : (u : List ℕ) (n : ℕ) (z : List ℕ) → n ≤ most → (p : Path (f n)) → u ++ z ≡ decimal n → Begun (Number most f) u
    begun_by u n z fits p e =
        let left = split_one z (word (f n) p) (plain_long (word (f n) p) (plain n p)) in
        record {
          path = (n, fits, p);
          next = left.0;
          more = left.1;
          spelled = ap (λ r. u ++ r) (sym left.2) ∙ sym (append_assoc u z (word (f n) p)) ∙ ap (λ r. r ++ word (f n) p) e;
        }

block_read : {R : Type 0} (size : ℕ) (f : List ℕ → Form R) → ((block : List ℕ) → HasBytes (f block)) → ((block : List ℕ) → IsRead (f block)) → IsRead (Block size f)
block_read size f after h = record {
  whole = λ p u.
      rw (append_assoc p.0 (word (f p.0) p.2) u, block_whole size p.0 (word (f p.0) p.2 ++ u) p.1 (longer (word (f p.0) p.2) u (after p.0 p.2))) ((h p.0).whole p.2 u);
  short = λ p u b more e. elim (block_short size p.0 u (word (f p.0) p.2) b more p.1 e) [
    | inl s ↦ bind_waits (block_at size u) (λ y. read (f y.0) y.1) s.0 s.1
    | inr s ↦ bind_on (block_at size u) (λ y. read (f y.0) y.1) (p.0, s.0) s.1 ((h p.0).short p.2 s.0 b more s.2)
  ];
  found = λ u x e.
      let first = bind_ok (block_at size u) (λ y. read (f y.0) y.1) x e in
      let block = block_found size u first.0 first.1 in
      let rest = (h first.0.0).found first.0.1 x first.2 in
      record {
        path = (first.0.0, block.1, rest.path);
        means = rest.means;
        spelled = block.0 ∙ ap (λ r. first.0.0 ++ r) rest.spelled ∙ sym (append_assoc first.0.0 (word (f first.0.0) rest.path) x.1);
      };
  begun = λ u k e. elim (bind_more (block_at size u) (λ y. read (f y.0) y.1) k e) [
    | inl s ↦
        let wanted = block_more size u k s in
        record { some = omega (arith, wanted.0); begun = λ more few. filled (u ++ more) (omega (arith, wanted.0, wanted.1, length-append u more)) }
    | inr s ↦
        let block = block_found size u s.0 s.1 in
        let rests = (h s.0.0).begun s.0.1 k s.2 in
        record {
          some = rests.some;
          begun = λ more few.
              let rest = rests.begun more few in
              record {
                path = (s.0.0, block.1, rest.path);
                next = rest.next;
                more = rest.more;
                spelled = begun_after s.0.0 u s.0.1 more (word (f s.0.0) rest.path) rest.next rest.more block.0 rest.spelled;
              };
        }
  ];
}
  where
    longer : (w u : List ℕ) → 0 < length w → 0 < length (w ++ u)
    longer w u p = omega (arith, length-append w u)

    -- bytes that make a block of those that arrived, and one after it
    filled : (u : List ℕ) → length u ≤ size → Begun (Block size f) u
    filled u h =
        let zeros = replicate (size - length u) 0 in
        let block = u ++ zeros in
        let sized : length block ≡ size = omega (arith, length-append u zeros, length-replicate {A = ℕ} (size - length u) 0) in
        let p = some_path (f block) in
        let left = split_one zeros (word (f block) p) (after block p) in
        record {
          path = (block, sized, p);
          next = left.0;
          more = left.1;
          spelled = ap (λ r. u ++ r) (sym left.2) ∙ sym (append_assoc u zeros (word (f block) p));
        }

-- of two forms that are apart, the first is strange on a spelling of the second
not_whole : {R : Type 0} (f g : Form R) → IsRead f → AreApart f g → (q : Path g) (u : List ℕ) (x : R × List ℕ) (more left : List ℕ) → u ++ more ≡ word g q ++ left → read f u ≡ Ok x → ⊥
not_whole f g h apart q u x more left same e =
    let p = h.found u x e in
    apart p.path q (x.1 ++ more) left (sym (append_assoc (word f p.path) x.1 more) ∙ ap (λ r. r ++ more) (sym p.spelled) ∙ same)

not_begun : {R : Type 0} (f g : Form R) → IsRead f → AreApart f g → (q : Path g) (left : List ℕ) (n : ℕ) → read f (word g q ++ left) ≡ Err (More n) → ⊥
not_begun f g h apart q left n e =
    let p = begun_now f (word g q ++ left) n (h.begun (word g q ++ left) n e) in
    apart p.path q [] (left ++ p.next ∷ p.more) (append-nil _ ∙ sym p.spelled ∙ append_assoc (word g q) left (p.next ∷ p.more))

strange_first : {R : Type 0} (f g : Form R) → IsRead f → AreApart f g → (q : Path g) (left : List ℕ) (r : Result (R × List ℕ) Unready) → read f (word g q ++ left) ≡ r → read f (word g q ++ left) ≡ Err Strange
strange_first f g h apart q left (Ok x) e = absurd (not_whole f g h apart q (word g q ++ left) x [] left (append-nil _) e)
strange_first f g h apart q left (Err (More n)) e = absurd (not_begun f g h apart q left n e)
strange_first f g h apart q left (Err Strange) e = e

or_short : {R : Type 0} (f g : Form R) → IsRead f → IsRead g → AreApart f g → (q : Path g) (u : List ℕ) (b : ℕ) (more : List ℕ) → u ++ b ∷ more ≡ word g q
    → (r : Result (R × List ℕ) Unready) → read f u ≡ r → Waits (or_else (read f u) (read g u))
or_short f g hf hg apart q u b more same (Ok x) e = absurd (not_whole f g hf apart q u x (b ∷ more) [] (same ∙ sym (append-nil _)) e)
or_short f g hf hg apart q u b more same (Err (More n)) e = (n, rw e refl)
or_short f g hf hg apart q u b more same (Err Strange) e = let second = hg.short q u b more same in (second.0, rw e second.1)

or_found : {R : Type 0} (f g : Form R) → IsRead f → IsRead g → (u : List ℕ) (x : R × List ℕ) (r : Result (R × List ℕ) Unready) → read f u ≡ r → or_else r (read g u) ≡ Ok x → Found (Or f g) u x
or_found f g hf hg u x (Ok y) is e =
    let p = hf.found u x (is ∙ e) in record { path = inl p.path; means = p.means; spelled = p.spelled }
or_found f g hf hg u x (Err (More n)) is e = absurd (cc)
or_found f g hf hg u x (Err Strange) is e =
    let p = hg.found u x e in record { path = inr p.path; means = p.means; spelled = p.spelled }

begun_left : {R : Type 0} (f g : Form R) (u : List ℕ) (n : ℕ) → BegunFor f u n → BegunFor (Or f g) u n
begun_left f g u n h = record {
  some = h.some;
  begun = λ more few. let p = h.begun more few in record { path = inl p.path; next = p.next; more = p.more; spelled = p.spelled };
}

begun_right : {R : Type 0} (f g : Form R) (u : List ℕ) (n : ℕ) → BegunFor g u n → BegunFor (Or f g) u n
begun_right f g u n h = record {
  some = h.some;
  begun = λ more few. let p = h.begun more few in record { path = inr p.path; next = p.next; more = p.more; spelled = p.spelled };
}

or_begun : {R : Type 0} (f g : Form R) → IsRead f → IsRead g → (u : List ℕ) (n : ℕ) (r : Result (R × List ℕ) Unready) → read f u ≡ r → or_else r (read g u) ≡ Err (More n) → BegunFor (Or f g) u n
or_begun f g hf hg u n (Ok y) is e = absurd (cc)
or_begun f g hf hg u n (Err (More m)) is e = begun_left f g u n (hf.begun u n (is ∙ e))
or_begun f g hf hg u n (Err Strange) is e = begun_right f g u n (hg.begun u n e)

or_waits : {A : Type 0} (r q : Result A Unready) → Waits r → Waits (or_else r q)
or_waits r q h = (h.0, rw h.1 refl)

or_read : {R : Type 0} (f g : Form R) → IsRead f → IsRead g → AreApart f g → IsRead (Or f g)
or_read f g hf hg apart = record {
  whole = elim [
    | inl p ↦ λ u. rw (hf.whole p u) refl
    | inr q ↦ λ u. rw (strange_first f g hf apart q u (read f (word g q ++ u)) refl) (hg.whole q u)
  ];
  short = elim [
    | inl p ↦ λ u b more e. or_waits (read f u) (read g u) (hf.short p u b more e)
    | inr q ↦ λ u b more e. or_short f g hf hg apart q u b more e (read f u) refl
  ];
  found = λ u x e. or_found f g hf hg u x (read f u) refl e;
  begun = λ u n e. or_begun f g hf hg u n (read f u) refl e;
}

-- THE LAW: what a clear form reads is what it spells
pub is_read : {R : Type 0} → (f : Form R) → IsClear f → IsRead f
is_read (Done r) clear = done_read r
is_read (Text t f) clear = text_read t f (is_read f clear)
is_read (Number most f) clear = number_read most f clear.0 clear.1 (λ n. is_read (f n) (clear.2 n))
is_read (Block size f) clear = block_read size f clear.0 (λ block. is_read (f block) (clear.1 block))
is_read (Or f g) clear = or_read f g (is_read f clear.0) (is_read g clear.1) clear.2
