-- What stays once it is known, and after how many bytes it is known.
use Rattle.std.proofs.Common.{◌≡◌, ◌≢◌, ℕ, suc, ◌+◌, ◌<◌, ◌≤◌, ◌==◌, false, List, [], ◌∷◌, ◌++◌, length, inl, inr, Result, Ok, Err, refl, arith, codes}
use Rattle.std.proofs.lemmas.Bool.Decides.{nat_tests}
use Rattle.mc_text.specs.Forms.{text_at, or_else, ◌>>=◌}
use Rattle.mc_text.specs.declared.unready.Unready.{Unready}
use Rattle.mc_text.specs.declared.unready.Unready.TheVariants.{More, Strange}
use Rattle.mc_text.proofs.FieldLemmas.{either}
use Rattle.mc_net.specs.Openings.{http_at, method_at, target_at, opening_by, opening_of}
use Rattle.mc_net.specs.declared.openings.Opening.TheVariants.{Unsettled, Text}

-- a reading, and the reading after more bytes: what was read stays, and a non-beginning stays one
abbrev pub Stays : List ℕ → Result (List ℕ) Unready → Result (List ℕ) Unready → Type 0
Stays more (Ok rest) later = later ≡ Ok (rest ++ more)
Stays more (Err (More wanted)) later = Unit {0}
Stays more (Err Strange) later = later ≡ Err Strange

pub text_stays : (more text bytes : List ℕ) → Stays more (text_at text bytes) (text_at text (bytes ++ more))
unfolding text_at
text_stays more [] bytes = refl
text_stays more (t ∷ ts) [] = tt
text_stays more (t ∷ ts) (b ∷ u) = elim (either (b == t)) [
  | inl same ↦ rw same (text_stays more ts u)
  | inr other ↦ rw other refl
]

pub or_stays : (more : List ℕ) (a a' b b' : Result (List ℕ) Unready) → Stays more a a' → Stays more b b' → Stays more (or_else a b) (or_else a' b')
or_stays more (Ok rest) a' b b' first second = rw first refl
or_stays more (Err (More wanted)) a' b b' first second = tt
or_stays more (Err Strange) a' b b' first second = rw first second

pub then_stays : (more : List ℕ) (a a' : Result (List ℕ) Unready) (f : List ℕ → Result (List ℕ) Unready) → Stays more a a' → ((rest : List ℕ) → Stays more (f rest) (f (rest ++ more))) → Stays more (a >>= f) (a' >>= f)
then_stays more (Ok rest) a' f first second = rw first (second rest)
then_stays more (Err (More wanted)) a' f first second = tt
then_stays more (Err Strange) a' f first second = rw first refl

method_stays : (more bytes : List ℕ) → Stays more (method_at bytes) (method_at (bytes ++ more))
method_stays more bytes =
    or_stays more _ _ _ _ (text_stays more (codes "GET ") bytes)
    (or_stays more _ _ _ _ (text_stays more (codes "POST ") bytes)
    (or_stays more _ _ _ _ (text_stays more (codes "PUT ") bytes)
    (or_stays more _ _ _ _ (text_stays more (codes "HEAD ") bytes)
    (or_stays more _ _ _ _ (text_stays more (codes "DELETE ") bytes)
    (or_stays more _ _ _ _ (text_stays more (codes "PATCH ") bytes) (text_stays more (codes "OPTIONS ") bytes))))))

target_stays : (more bytes : List ℕ) → Stays more (target_at bytes) (target_at (bytes ++ more))
target_stays more bytes =
    or_stays more _ _ _ _ (text_stays more (codes "/") bytes) (text_stays more (codes "http") bytes)

http_stays : (more bytes : List ℕ) → Stays more (http_at bytes) (http_at (bytes ++ more))
http_stays more bytes =
    or_stays more _ _ _ _ (text_stays more (codes "OPTIONS *") bytes)
    (then_stays more _ _ target_at (method_stays more bytes) (target_stays more))

by_stays : (more : List ℕ) (a a' : Result (List ℕ) Unready) → Stays more a a' → opening_by a ≢ Unsettled → opening_by a' ≡ opening_by a
by_stays more (Ok rest) a' stays known = rw stays refl
by_stays more (Err (More wanted)) a' stays known = absurd (known refl)
by_stays more (Err Strange) a' stays known = rw stays refl

pub opening_stays : (bytes more : List ℕ) → opening_of bytes ≢ Unsettled → opening_of (bytes ++ more) ≡ opening_of bytes
unfolding opening_of
opening_stays [] more known = absurd (known refl)
opening_stays (b ∷ rest) more known = elim (either (b == 128)) [
  | inl binary ↦ rw binary refl
  | inr no_binary ↦ elim (either (b == 22)) [
    | inl tls ↦ rw (no_binary, tls) refl
    | inr no_tls ↦
        let by : opening_by (http_at (b ∷ rest)) ≢ Unsettled = rw (no_binary, no_tls) at known in
        rw (no_binary, no_tls) (by_stays more (http_at (b ∷ rest)) (http_at (b ∷ rest ++ more)) (http_stays more (b ∷ rest)) by)
  ]
]

-- how many of some bytes a reading takes at most, and after how many it is known
abbrev pub Takes : ℕ → List ℕ → Result (List ℕ) Unready → Type 0
Takes most bytes (Ok rest) = length bytes ≤ most + length rest
Takes most bytes (Err (More wanted)) = length bytes < most
Takes most bytes (Err Strange) = Unit {0}

wider : (most more : ℕ) (bytes : List ℕ) (r : Result (List ℕ) Unready) → most ≤ more → Takes most bytes r → Takes more bytes r
wider most more bytes (Ok rest) fits takes = grind arith
wider most more bytes (Err (More wanted)) fits takes = grind arith
wider most more bytes (Err Strange) fits takes = tt

one_more : (most b : ℕ) (bytes : List ℕ) (r : Result (List ℕ) Unready) → Takes most bytes r → Takes (suc most) (b ∷ bytes) r
one_more most b bytes (Ok rest) takes = grind arith
one_more most b bytes (Err (More wanted)) takes = grind arith
one_more most b bytes (Err Strange) takes = tt

pub text_takes : (text bytes : List ℕ) → Takes (length text) bytes (text_at text bytes)
unfolding text_at
text_takes [] bytes = grind arith
text_takes (t ∷ ts) [] = grind arith
text_takes (t ∷ ts) (b ∷ u) = elim (either (b == t)) [
  | inl same ↦ rw same (one_more (length ts) b u (text_at ts u) (text_takes ts u))
  | inr other ↦ rw other tt
]

-- a text of at most `most` bytes
short : (most : ℕ) (text bytes : List ℕ) → length text ≤ most → Takes most bytes (text_at text bytes)
short most text bytes fits = wider (length text) most bytes (text_at text bytes) fits (text_takes text bytes)

or_takes : (most : ℕ) (bytes : List ℕ) (a b : Result (List ℕ) Unready) → Takes most bytes a → Takes most bytes b → Takes most bytes (or_else a b)
or_takes most bytes (Ok rest) b first second = first
or_takes most bytes (Err (More wanted)) b first second = first
or_takes most bytes (Err Strange) b first second = second

both : (most more : ℕ) (bytes rest : List ℕ) (r : Result (List ℕ) Unready) → length bytes ≤ most + length rest → Takes more rest r → Takes (most + more) bytes r
both most more bytes rest (Ok last) first second = grind arith
both most more bytes rest (Err (More wanted)) first second = grind arith
both most more bytes rest (Err Strange) first second = tt

then_takes : (most more : ℕ) (bytes : List ℕ) (a : Result (List ℕ) Unready) (f : List ℕ → Result (List ℕ) Unready) → Takes most bytes a → ((rest : List ℕ) → Takes more rest (f rest)) → Takes (most + more) bytes (a >>= f)
then_takes most more bytes (Ok rest) f first second = both most more bytes rest (f rest) first (second rest)
then_takes most more bytes (Err (More wanted)) f first second = grind arith
then_takes most more bytes (Err Strange) f first second = tt

method_takes : (bytes : List ℕ) → Takes 8 bytes (method_at bytes)
method_takes bytes =
    or_takes 8 bytes _ _ (short 8 (codes "GET ") bytes (grind arith))
    (or_takes 8 bytes _ _ (short 8 (codes "POST ") bytes (grind arith))
    (or_takes 8 bytes _ _ (short 8 (codes "PUT ") bytes (grind arith))
    (or_takes 8 bytes _ _ (short 8 (codes "HEAD ") bytes (grind arith))
    (or_takes 8 bytes _ _ (short 8 (codes "DELETE ") bytes (grind arith))
    (or_takes 8 bytes _ _ (short 8 (codes "PATCH ") bytes (grind arith)) (short 8 (codes "OPTIONS ") bytes (grind arith)))))))

target_takes : (bytes : List ℕ) → Takes 4 bytes (target_at bytes)
target_takes bytes = or_takes 4 bytes _ _ (short 4 (codes "/") bytes (grind arith)) (short 4 (codes "http") bytes (grind arith))

http_takes : (bytes : List ℕ) → Takes 12 bytes (http_at bytes)
http_takes bytes =
    or_takes 12 bytes _ _ (short 12 (codes "OPTIONS *") bytes (grind arith))
    (then_takes 8 4 bytes (method_at bytes) target_at (method_takes bytes) target_takes)

by_settled : (bytes : List ℕ) (r : Result (List ℕ) Unready) → Takes 12 bytes r → 12 ≤ length bytes → opening_by r ≢ Unsettled
by_settled bytes (Ok rest) takes enough = λ e. absurd (cc)
by_settled bytes (Err (More wanted)) takes enough = absurd (grind arith)
by_settled bytes (Err Strange) takes enough = λ e. absurd (cc)

pub opening_settled : (bytes : List ℕ) → 12 ≤ length bytes → opening_of bytes ≢ Unsettled
unfolding opening_of
opening_settled [] enough = absurd (grind arith)
opening_settled (b ∷ rest) enough = elim (either (b == 128)) [
  | inl binary ↦ rw binary (λ e. absurd (cc))
  | inr no_binary ↦ elim (either (b == 22)) [
    | inl tls ↦ rw (no_binary, tls) (λ e. absurd (cc))
    | inr no_tls ↦ rw (no_binary, no_tls) (by_settled (b ∷ rest) (http_at (b ∷ rest)) (http_takes (b ∷ rest)) enough)
  ]
]

-- a first byte that begins no opening
pub small_is_text : (b : ℕ) (rest : List ℕ) → 97 ≤ b → b ≤ 122 → opening_of (b ∷ rest) ≡ Text
unfolding opening_of text_at
small_is_text b rest least most =
    let binary : (b == 128) ≡ false = grind (arith, nat_tests) in
    let tls : (b == 22) ≡ false = grind (arith, nat_tests) in
    let g : (b == 71) ≡ false = grind (arith, nat_tests) in
    let p : (b == 80) ≡ false = grind (arith, nat_tests) in
    let h : (b == 72) ≡ false = grind (arith, nat_tests) in
    let d : (b == 68) ≡ false = grind (arith, nat_tests) in
    let o : (b == 79) ≡ false = grind (arith, nat_tests) in
    rw (binary, tls, g, p, h, d, o) refl
