-- What each field reads.
use Rattle.std.proofs.Common.{◌≡◌, ◌≢◌, ℕ, ◌+◌, ◌-◌, ◌*◌, ◌/◌, ◌%◌, ◌^◌, ◌<◌, ◌≤◌, ◌==◌, ◌&&◌, nat_lt, nat_le, Bool, true, false, List, [], ◌∷◌, ◌++◌, length, take, drop, ◌⊎◌, inl, inr, Result, Ok, Err, refl, sym, ap, subst, ◌∙◌, arith}
use Rattle.std.specs.Fmt.{decimal}
use Rattle.std.proofs.lemmas.Fmt.{decimal_digit, decimal_step, decimal_by_steps}
use Rattle.std.proofs.lemmas.List.{append_assoc, append-nil, length-append, length-drop, take_at, drop_at, take-append-drop}
use Rattle.std.proofs.lemmas.Bool.Decides.{nat_tests}
use Rattle.mc_text.specs.declared.unready.Unready.{Unready}
use Rattle.mc_text.specs.declared.unready.Unready.TheVariants.{More, Strange}
use Rattle.mc_text.specs.Forms.{text_at, is_digit, digits_at, number_at, block_at}

pub either : (b : Bool) → (b ≡ true) ⊎ (b ≡ false)
either true = inl refl
either false = inr refl

both_left : (a b : Bool) → (a && b) ≡ true → a ≡ true
both_left true b h = refl
both_left false b h = absurd (cc)

-- the point at which two splits of one list meet
pub append_split : (a x d w : List ℕ) → a ++ x ≡ d ++ w
    → ((z : List ℕ) × (d ≡ a ++ z) × (x ≡ z ++ w)) ⊎ ((rest : List ℕ) × (a ≡ d ++ rest) × (rest ++ x ≡ w))
append_split [] x d w e = inl (d, refl, e)
append_split (b ∷ a) x [] w e = inr (b ∷ a, refl, e)
append_split (b ∷ a) x (c ∷ d) w e =
    let head : b ≡ c = cc in
    let tail : a ++ x ≡ d ++ w = cc in
    elim (append_split a x d w tail) [
      | inl s ↦ let same : d ≡ a ++ s.0 = s.1 in inl (s.0, cc, s.2)
      | inr s ↦ let same : a ≡ d ++ s.0 = s.1 in inr (s.0, cc, s.2)
    ]

-- texts

pub text_whole : (t u : List ℕ) → text_at t (t ++ u) ≡ Ok u
unfolding text_at
text_whole [] u = refl
text_whole (b ∷ t) u = let same : (b == b) ≡ true = grind (arith, nat_tests) in rw same (text_whole t u)

pub text_found : (t u rest : List ℕ) → text_at t u ≡ Ok rest → u ≡ t ++ rest
unfolding text_at
text_found [] u rest e = cc
text_found (t ∷ ts) [] rest e = absurd (cc)
text_found (t ∷ ts) (b ∷ u) rest e = elim (either (b == t)) [
  | inl same ↦
      let head : b ≡ t = grind (arith, nat_tests, same) in
      let tail : u ≡ ts ++ rest = text_found ts u rest (rw same at e) in
      cc
  | inr other ↦ let never : Err Strange ≡ Ok rest = rw other at e in absurd (cc)
]

pub text_more : (t u : List ℕ) (n : ℕ) → text_at t u ≡ Err (More n) → (n ≡ 1) × (b : ℕ) × (more : List ℕ) × (u ++ b ∷ more ≡ t)
unfolding text_at
text_more [] u n e = absurd (cc)
text_more (t ∷ ts) [] n e = (cc, t, ts, refl)
text_more (t ∷ ts) (b ∷ u) n e = elim (either (b == t)) [
  | inl same ↦
      let head : b ≡ t = grind (arith, nat_tests, same) in
      let tail = text_more ts u n (rw same at e) in
      let tail_is : u ++ tail.1 ∷ tail.2 ≡ ts = tail.3 in
      (tail.0, tail.1, tail.2, cc)
  | inr other ↦ let never : Err Strange ≡ Err (More n) = rw other at e in absurd (cc)
]

-- the beginning of a text asks for more
text_begun : (u z : List ℕ) → 0 < length z → text_at (u ++ z) u ≡ Err (More 1)
unfolding text_at
text_begun [] [] h = absurd (omega arith)
text_begun [] (c ∷ z) h = refl
text_begun (b ∷ u) z h = let same : (b == b) ≡ true = grind (arith, nat_tests) in rw same (text_begun u z h)

pub text_short : (t u w : List ℕ) (b : ℕ) (more : List ℕ) → u ++ b ∷ more ≡ t ++ w
    → (text_at t u ≡ Err (More 1)) ⊎ ((rest : List ℕ) × (text_at t u ≡ Ok rest) × (rest ++ b ∷ more ≡ w))
text_short t u w b more e = elim (append_split u (b ∷ more) t w e) [
  | inl s ↦ text_short_by t u w b more s.0 s.1 s.2
  | inr s ↦ inr (s.0, rw s.1 (text_whole t s.0), s.2)
]
  where
    text_short_by : (t u w : List ℕ) (b : ℕ) (more z : List ℕ) → t ≡ u ++ z → b ∷ more ≡ z ++ w
        → (text_at t u ≡ Err (More 1)) ⊎ ((rest : List ℕ) × (text_at t u ≡ Ok rest) × (rest ++ b ∷ more ≡ w))
    text_short_by t u w b more [] e f =
        let all : t ≡ u = e ∙ append-nil u in
        inr ([], rw all (let whole : text_at u (u ++ []) ≡ Ok [] = text_whole u [] in rw append-nil at whole), f)
    text_short_by t u w b more (c ∷ z) e f = inl (rw e (text_begun u (c ∷ z) (omega arith)))

-- for code that strips a text, or tests whether one begins with the other
text_by : (t u : List ℕ) (r : Result (List ℕ) Unready) → text_at t u ≡ r → ((rest : List ℕ) → u ≢ t ++ rest) → ((z : List ℕ) → t ≢ u ++ z) → text_at t u ≡ Err Strange
text_by t u (Ok rest) e never less = absurd (never rest (text_found t u rest e))
text_by t u (Err (More n)) e never less = let left = text_more t u n e in absurd (less (left.1 ∷ left.2) (sym left.3))
text_by t u (Err Strange) e never less = e

pub text_strange : (t u : List ℕ) → ((rest : List ℕ) → u ≢ t ++ rest) → ((z : List ℕ) → t ≢ u ++ z) → text_at t u ≡ Err Strange
text_strange t u never less = text_by t u (text_at t u) refl never less

pub text_cut : (t u z : List ℕ) → t ≡ u ++ z → ((rest : List ℕ) → u ≢ t ++ rest) → text_at t u ≡ Err (More 1)
text_cut t u [] e never = absurd (never [] (sym (append-nil u) ∙ sym e ∙ sym (append-nil t)))
text_cut t u (c ∷ z) e never = rw e (text_begun u (c ∷ z) (omega arith))

-- numbers

pub digits_on : (most n d : ℕ) (u : List ℕ) → 0 < n → d < 10 → 10 * n + d ≤ most → digits_at most n ((48 + d) ∷ u) ≡ digits_at most (10 * n + d) u
unfolding digits_at
digits_on most n d u pos small fits =
    let digit : is_digit (48 + d) ≡ true = grind (arith, nat_tests) in
    let value : (48 + d) - 48 ≡ d = omega arith in
    let above : nat_lt 0 n ≡ true = grind (arith, nat_tests) in
    let within : nat_le (10 * n + d) most ≡ true = grind (arith, nat_tests) in
    rw (digit, value, above, within) refl

number_one : (most n : ℕ) → n < 10 → n ≤ most → (u : List ℕ) → number_at most ((48 + n) ∷ u) ≡ digits_at most n u
unfolding number_at
number_one most n small fits u =
    let digit : is_digit (48 + n) ≡ true = grind (arith, nat_tests) in
    let value : (48 + n) - 48 ≡ n = omega arith in
    let within : nat_le n most ≡ true = grind (arith, nat_tests) in
    rw (digit, value, within) refl

abbrev IsBegunBy : ℕ → ℕ → List ℕ → Type 0
IsBegunBy most n ds = n ≤ most → (u : List ℕ) → number_at most (ds ++ u) ≡ digits_at most n u

number_on : (most n : ℕ) (ds : List ℕ) → 10 ≤ n → IsBegunBy most (n / 10) ds → IsBegunBy most n (ds ++ ((48 + n % 10) ∷ []))
number_on most n ds long before fits u =
    let digit : n % 10 < 10 = omega arith in
    let value : 10 * (n / 10) + n % 10 ≡ n = omega arith in
    let fits_on : 10 * (n / 10) + n % 10 ≤ most = omega arith in
    ap (number_at most) (append_assoc ds ((48 + n % 10) ∷ []) u)
    ∙ before (omega arith) ((48 + n % 10) ∷ u)
    ∙ digits_on most (n / 10) (n % 10) u (omega arith) digit fits_on
    ∙ ap (λ m. digits_at most m u) value

pub number_begun : (most n : ℕ) → most < 2 ^ 64 → n ≤ most → (u : List ℕ) → number_at most (decimal n ++ u) ≡ digits_at most n u
number_begun most n bound fits u =
    decimal_by_steps (IsBegunBy most) (λ n small fits u. number_one most n small fits u) (number_on most) n (omega arith) fits u

-- what does not begin with a digit
abbrev pub StartsPlain : List ℕ → Type 0
StartsPlain [] = ⊥
StartsPlain (b ∷ bs) = is_digit b ≡ false

digits_end : (most n : ℕ) (w : List ℕ) → StartsPlain w → digits_at most n w ≡ Ok (n, w)
unfolding digits_at
digits_end most n [] h = absurd h
digits_end most n (b ∷ w) h = rw h refl

pub number_whole : (most n : ℕ) (w : List ℕ) → most < 2 ^ 64 → n ≤ most → StartsPlain w → number_at most (decimal n ++ w) ≡ Ok (n, w)
number_whole most n w bound fits plain = number_begun most n bound fits w ∙ digits_end most n w plain

-- one digit more
decimal_more : (n b : ℕ) → 0 < n → is_digit b ≡ true → 10 * n + (b - 48) < 2 ^ 64 → decimal (10 * n + (b - 48)) ≡ decimal n ++ b ∷ []
decimal_more n b pos digit bound =
    let low : 48 ≤ b = grind (arith, nat_tests, digit) in
    let high : b ≤ 57 = grind (arith, nat_tests, digit) in
    let m = 10 * n + (b - 48) in
    let front : m / 10 ≡ n = omega arith in
    let last : 48 + m % 10 ≡ b = omega arith in
    decimal_step m (omega arith) bound ∙ rw (front, last) refl

-- a number that goes on by a digit, and one that begins with it
digit_onto : (n b : ℕ) (u : List ℕ) → 0 < n → is_digit b ≡ true → 10 * n + (b - 48) < 2 ^ 64 → decimal n ++ b ∷ u ≡ decimal (10 * n + (b - 48)) ++ u
digit_onto n b u pos digit bound = sym (append_assoc (decimal n) (b ∷ []) u) ∙ ap (λ ds. ds ++ u) (sym (decimal_more n b pos digit bound))

digit_first : (b : ℕ) (u : List ℕ) → is_digit b ≡ true → b ∷ u ≡ decimal (b - 48) ++ u
digit_first b u digit =
    let low : 48 ≤ b = grind (arith, nat_tests, digit) in
    let high : b ≤ 57 = grind (arith, nat_tests, digit) in
    let back : 48 + (b - 48) ≡ b = omega arith in
    let first : decimal (b - 48) ≡ b ∷ [] = decimal_digit (b - 48) (omega arith) ∙ ap (λ c. c ∷ []) back in
    ap (λ ds. ds ++ u) (sym first)

-- two steps from one list to another
onward : (xs ys zs : List ℕ) → xs ≡ ys → ys ≡ zs → xs ≡ zs
onward xs ys zs e f = e ∙ f

record Reads (most n : ℕ) (u : List ℕ) (x : ℕ × List ℕ) : Type 0 where
  pub same : decimal n ++ u ≡ decimal x.0 ++ x.1
  pub fits : x.0 ≤ most

digits_found : (most n : ℕ) (u : List ℕ) (x : ℕ × List ℕ) → most < 2 ^ 64 → n ≤ most → digits_at most n u ≡ Ok x → Reads most n u x
unfolding digits_at
digits_found most n [] x bound fits e = absurd (cc)
digits_found most n (b ∷ u) x bound fits e = elim (either (is_digit b)) [
  | inl digit ↦ elim (either (nat_lt 0 n && nat_le (10 * n + (b - 48)) most)) [
    | inl on ↦
        let pos : 0 < n = grind (arith, nat_tests, on) in
        let within : 10 * n + (b - 48) ≤ most = grind (arith, nat_tests, on) in
        let rest = digits_found most (10 * n + (b - 48)) u x bound within (rw (digit, on) at e) in
        record {
          same = onward (decimal n ++ b ∷ u) (decimal (10 * n + (b - 48)) ++ u) (decimal x.0 ++ x.1) (digit_onto n b u pos digit (omega arith)) rest.same;
          fits = rest.fits;
        }
    | inr off ↦ let never : Err Strange ≡ Ok x = rw (digit, off) at e in absurd (cc)
  ]
  | inr plain ↦
      let now : Ok (n, b ∷ u) ≡ Ok x = rw plain at e in
      let is : (n, b ∷ u) ≡ x = cc in
      rw (← is) (record { same = refl; fits = fits })
]

digits_more : (most n : ℕ) (u : List ℕ) (k : ℕ) → most < 2 ^ 64 → n ≤ most → digits_at most n u ≡ Err (More k) → (k ≡ 1) × (m : ℕ) × (m ≤ most) × (decimal n ++ u ≡ decimal m)
unfolding digits_at
digits_more most n [] k bound fits e = (cc, n, fits, append-nil _)
digits_more most n (b ∷ u) k bound fits e = elim (either (is_digit b)) [
  | inl digit ↦ elim (either (nat_lt 0 n && nat_le (10 * n + (b - 48)) most)) [
    | inl on ↦
        let pos : 0 < n = grind (arith, nat_tests, on) in
        let within : 10 * n + (b - 48) ≤ most = grind (arith, nat_tests, on) in
        let rest = digits_more most (10 * n + (b - 48)) u k bound within (rw (digit, on) at e) in
        (rest.0, rest.1, rest.2, onward (decimal n ++ b ∷ u) (decimal (10 * n + (b - 48)) ++ u) (decimal rest.1) (digit_onto n b u pos digit (omega arith)) rest.3)
    | inr off ↦ let never : ◌≡◌ {A = Result (ℕ × List ℕ) Unready} (Err Strange) (Err (More k)) = rw (digit, off) at e in absurd (cc)
  ]
  | inr plain ↦ let never : ◌≡◌ {A = Result (ℕ × List ℕ) Unready} (Ok (n, b ∷ u)) (Err (More k)) = rw plain at e in absurd (cc)
]

digits_less : (most n : ℕ) (u z : List ℕ) → digits_at most n (u ++ z) ≡ Err (More 1) → digits_at most n u ≡ Err (More 1)
unfolding digits_at
digits_less most n [] z e = refl
digits_less most n (b ∷ u) z e = elim (either (is_digit b)) [
  | inl digit ↦ elim (either (nat_lt 0 n && nat_le (10 * n + (b - 48)) most)) [
    | inl on ↦ rw (digit, on) (digits_less most (10 * n + (b - 48)) u z (rw (digit, on) at e))
    | inr off ↦ let never : ◌≡◌ {A = Result (ℕ × List ℕ) Unready} (Err Strange) (Err (More 1)) = rw (digit, off) at e in absurd (cc)
  ]
  | inr plain ↦ let never : ◌≡◌ {A = Result (ℕ × List ℕ) Unready} (Ok (n, b ∷ (u ++ z))) (Err (More 1)) = rw plain at e in absurd (cc)
]

number_less : (most : ℕ) (u z : List ℕ) → number_at most (u ++ z) ≡ Err (More 1) → number_at most u ≡ Err (More 1)
unfolding number_at
number_less most [] z e = refl
number_less most (b ∷ u) z e = elim (either (is_digit b && nat_le (b - 48) most)) [
  | inl on ↦ rw on (digits_less most (b - 48) u z (rw on at e))
  | inr off ↦ let never : ◌≡◌ {A = Result (ℕ × List ℕ) Unready} (Err Strange) (Err (More 1)) = rw off at e in absurd (cc)
]

pub number_found : (most : ℕ) (u : List ℕ) (x : ℕ × List ℕ) → most < 2 ^ 64 → number_at most u ≡ Ok x → (u ≡ decimal x.0 ++ x.1) × (x.0 ≤ most)
unfolding number_at
number_found most [] x bound e = absurd (cc)
number_found most (b ∷ u) x bound e = elim (either (is_digit b && nat_le (b - 48) most)) [
  | inl on ↦
      let within : b - 48 ≤ most = grind (arith, nat_tests, on) in
      let first : b ∷ u ≡ decimal (b - 48) ++ u = digit_first b u (both_left (is_digit b) (nat_le (b - 48) most) on) in
      let rest = digits_found most (b - 48) u x bound within (rw on at e) in
      (onward (b ∷ u) (decimal (b - 48) ++ u) (decimal x.0 ++ x.1) first rest.same, rest.fits)
  | inr off ↦ let never : Err Strange ≡ Ok x = rw off at e in absurd (cc)
]

pub number_more : (most : ℕ) (u : List ℕ) (k : ℕ) → most < 2 ^ 64 → number_at most u ≡ Err (More k) → (k ≡ 1) × (m : ℕ) × (m ≤ most) × (z : List ℕ) × (u ++ z ≡ decimal m)
unfolding number_at
number_more most [] k bound e = (cc, 0, omega arith, decimal 0, refl)
number_more most (b ∷ u) k bound e = elim (either (is_digit b && nat_le (b - 48) most)) [
  | inl on ↦
      let within : b - 48 ≤ most = grind (arith, nat_tests, on) in
      let first : b ∷ u ≡ decimal (b - 48) ++ u = digit_first b u (both_left (is_digit b) (nat_le (b - 48) most) on) in
      let rest = digits_more most (b - 48) u k bound within (rw on at e) in
      (rest.0, rest.1, rest.2, [], onward ((b ∷ u) ++ []) (b ∷ u) (decimal rest.1) (append-nil (b ∷ u)) (onward (b ∷ u) (decimal (b - 48) ++ u) (decimal rest.1) first rest.3))
  | inr off ↦ let never : ◌≡◌ {A = Result (ℕ × List ℕ) Unready} (Err Strange) (Err (More k)) = rw off at e in absurd (cc)
]

number_alone : (most n : ℕ) → most < 2 ^ 64 → n ≤ most → number_at most (decimal n) ≡ Err (More 1)
unfolding digits_at
number_alone most n bound fits = ap (number_at most) (sym (append-nil (decimal n))) ∙ number_begun most n bound fits []

pub number_short : (most n : ℕ) (u w : List ℕ) (b : ℕ) (more : List ℕ) → most < 2 ^ 64 → n ≤ most → StartsPlain w → u ++ b ∷ more ≡ decimal n ++ w
    → (number_at most u ≡ Err (More 1)) ⊎ ((rest : List ℕ) × (number_at most u ≡ Ok (n, rest)) × (rest ++ b ∷ more ≡ w))
number_short most n u w b more bound fits plain e = elim (append_split u (b ∷ more) (decimal n) w e) [
  | inl s ↦ inl (number_less most u s.0 (ap (number_at most) (sym s.1) ∙ alone))
  | inr s ↦ after s.0 s.1 s.2
]
  where
    alone : number_at most (decimal n) ≡ Err (More 1)
    alone = number_alone most n bound fits

    after : (rest : List ℕ) → u ≡ decimal n ++ rest → rest ++ b ∷ more ≡ w
        → (number_at most u ≡ Err (More 1)) ⊎ ((rest : List ℕ) × (number_at most u ≡ Ok (n, rest)) × (rest ++ b ∷ more ≡ w))
    after [] s f = inl (ap (number_at most) (s ∙ append-nil (decimal n)) ∙ alone)
    after (c ∷ rest) s f =
        let first : StartsPlain (c ∷ rest) = subst StartsPlain (sym f) plain in
        inr (c ∷ rest, ap (number_at most) s ∙ number_whole most n (c ∷ rest) bound fits first, f)

-- blocks

pub block_whole : (size : ℕ) (block u : List ℕ) → length block ≡ size → 0 < length u → block_at size (block ++ u) ≡ Ok (block, u)
unfolding block_at
block_whole size block u h some =
    let enough : nat_lt size (length (block ++ u)) ≡ true = grind (arith, nat_tests, length-append block u) in
    rw (enough, take_at block u size h, drop_at block u size h) refl

pub block_found : (size : ℕ) (u : List ℕ) (x : List ℕ × List ℕ) → block_at size u ≡ Ok x → (u ≡ x.0 ++ x.1) × (length x.0 ≡ size)
unfolding block_at
block_found size u x e = elim (either (nat_lt size (length u))) [
  | inl enough ↦
      let now : Ok (take size u, drop size u) ≡ Ok x = rw enough at e in
      let is : (take size u, drop size u) ≡ x = cc in
      let le : size < length u = grind (arith, nat_tests, enough) in
      let parts = take-append-drop size u in
      rw (← is) (sym parts, omega (arith, ap (length {A = ℕ}) parts, length-append (take size u) (drop size u), length-drop size u))
  | inr short ↦ let never : Err (More (size - length u + 1)) ≡ Ok x = rw short at e in absurd (cc)
]

pub block_more : (size : ℕ) (u : List ℕ) (n : ℕ) → block_at size u ≡ Err (More n) → (n ≡ size - length u + 1) × (length u ≤ size)
unfolding block_at
block_more size u n e = elim (either (nat_lt size (length u))) [
  | inl enough ↦ let never : ◌≡◌ {A = Result (List ℕ × List ℕ) Unready} (Ok (take size u, drop size u)) (Err (More n)) = rw enough at e in absurd (cc)
  | inr short ↦ let now : ◌≡◌ {A = Result (List ℕ × List ℕ) Unready} (Err (More (size - length u + 1))) (Err (More n)) = rw short at e in (cc, grind (arith, nat_tests, short))
]

block_waits : (size : ℕ) (u : List ℕ) → length u ≤ size → block_at size u ≡ Err (More (size - length u + 1))
unfolding block_at
block_waits size u h =
    let short : nat_lt size (length u) ≡ false = grind (arith, nat_tests, h) in
    rw short refl

pub block_short : (size : ℕ) (block u w : List ℕ) (b : ℕ) (more : List ℕ) → length block ≡ size → u ++ b ∷ more ≡ block ++ w
    → ((n : ℕ) × (block_at size u ≡ Err (More n))) ⊎ ((rest : List ℕ) × (block_at size u ≡ Ok (block, rest)) × (rest ++ b ∷ more ≡ w))
block_short size block u w b more h e = elim (append_split u (b ∷ more) block w e) [
  | inl s ↦
      let sum : length block ≡ length u + length s.0 = ap (length {A = ℕ}) s.1 ∙ length-append u s.0 in
      inl (size - length u + 1, block_waits size u (omega arith))
  | inr s ↦ after s.0 s.1 s.2
]
  where
    after : (rest : List ℕ) → u ≡ block ++ rest → rest ++ b ∷ more ≡ w
        → ((n : ℕ) × (block_at size u ≡ Err (More n))) ⊎ ((rest : List ℕ) × (block_at size u ≡ Ok (block, rest)) × (rest ++ b ∷ more ≡ w))
    after [] s f =
        let sum : length u ≡ length block + length {A = ℕ} [] = ap (length {A = ℕ}) s ∙ length-append block [] in
        inl (size - length u + 1, block_waits size u (omega arith))
    after (c ∷ rest) s f = inr (c ∷ rest, ap (block_at size) s ∙ block_whole size block (c ∷ rest) h (omega arith), f)
