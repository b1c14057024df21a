-- The requests of a text that grows.
use Rattle.std.proofs.Common.{◌≡◌, ℕ, zero, suc, ◌+◌, if◌then◌else◌, ◌<◌, ◌≤◌, Bool, true, false, cond, List, [], ◌∷◌, ◌++◌, length, take, drop, Option, Some, None, refl, sym, ap, ◌∙◌, arith, nat_lt, length-append, length-drop}
use Rattle.std.proofs.lemmas.List.{take-append-le, drop-append-le}
use Rattle.mc_text.specs.Lines as lines
use Rattle.mc_text.specs.Lines.{FirstLine, first_line}
use Rattle.mc_text.specs.Words.{words}
use Rattle.mc_text.proofs.LineLemmas.{first_line_whole-size, first_line_whole-more, first_line_too_long, first_line_too_long-more, first_line-nil}
use Rattle.mc_request.specs.Meanings.{Meaning, Alone, Stores, Refuses, meaning}
use Rattle.mc_request.specs.Requests.{taken_by, with_block, next_request, next_by, ends, requests_from, requests_within, requests_of}
use Rattle.mc_request.specs.declared.parts.Parsed.{Parsed}
use Rattle.mc_request.specs.declared.parts.Parsed.TheVariants.{Faulty}

abbrev some : Parsed × ℕ → Option (Parsed × ℕ)
some x = Some x

-- a test that gave something
pub given : {A : Type 0} (b : Bool) (x y : A) → cond b None (Some x) ≡ Some y → (b ≡ false) × (x ≡ y)
given true x y e = absurd cc
given false x y e = (refl, cc)

-- how many bytes a line and its block take
taken_by-size : (m : Meaning) (line : ℕ) (rest : List ℕ) (x : Parsed × ℕ) → taken_by m line rest ≡ Some x → (line ≤ x.1) × (x.1 ≤ line + length rest)
taken_by-size (Alone t) line rest x e = let f : line ≡ x.1 = cc in (omega arith, omega arith)
taken_by-size (Refuses f n) line rest x e =
    let parts = given (nat_lt (length rest) (n + 2)) (Faulty f, line + (n + 2)) x e in
    let size : line + (n + 2) ≡ x.1 = ap (λ (y : Parsed × ℕ). y.1) parts.1 in
    (omega arith, grind (arith, parts.0))
taken_by-size (Stores s n) line rest x e =
    let parts = given (nat_lt (length rest) (n + 2)) (with_block s (take n rest) (take 2 (drop n rest)), line + (n + 2)) x e in
    let size : line + (n + 2) ≡ x.1 = ap (λ (y : Parsed × ℕ). y.1) parts.1 in
    (omega arith, grind (arith, parts.0))

-- what follows a whole block changes nothing
taken_by-more : (m : Meaning) (line : ℕ) (rest more : List ℕ) (x : Parsed × ℕ) → taken_by m line rest ≡ Some x → taken_by m line (rest ++ more) ≡ Some x
taken_by-more (Alone t) line rest more x e = e
taken_by-more (Refuses f n) line rest more x e =
    let parts = given (nat_lt (length rest) (n + 2)) (Faulty f, line + (n + 2)) x e in
    let enough : n + 2 ≤ length rest = grind (arith, parts.0) in
    let longer : nat_lt (length (rest ++ more)) (n + 2) ≡ false = grind (arith, enough, length-append rest more) in
    rw longer (ap (λ (y : Parsed × ℕ). some y) parts.1)
taken_by-more (Stores s n) line rest more x e =
    let parts = given (nat_lt (length rest) (n + 2)) (with_block s (take n rest) (take 2 (drop n rest)), line + (n + 2)) x e in
    let enough : n + 2 ≤ length rest = grind (arith, parts.0) in
    let longer : nat_lt (length (rest ++ more)) (n + 2) ≡ false = grind (arith, enough, length-append rest more) in
    let front : take n (rest ++ more) ≡ take n rest = take-append-le n rest more (omega arith) in
    let back : drop n (rest ++ more) ≡ drop n rest ++ more = drop-append-le n rest more (omega arith) in
    let end : take 2 (drop n rest ++ more) ≡ take 2 (drop n rest) = take-append-le 2 (drop n rest) more (omega (arith, length-drop n rest)) in
    rw (longer, front, back, end) (ap (λ (y : Parsed × ℕ). some y) parts.1)

-- a request takes a byte at least, and no more than there are
next_by-size : (l : FirstLine) (text : List ℕ) (x : Parsed × ℕ) → first_line text ≡ l → next_by l text ≡ Some x → (0 < x.1) × (x.1 ≤ length text)
next_by-size lines.Partial text x h e = absurd cc
next_by-size lines.TooLong text x h e =
    let size : 65536 ≡ x.1 = cc in
    (omega arith, omega (arith, (first_line_too_long text h).1))
next_by-size (lines.Whole content line) text x h e =
    let parts = taken_by-size (meaning (words content)) line (drop line text) x e in
    let line_size = first_line_whole-size text content line h in
    (omega (arith, parts.0, line_size.0), omega (arith, parts.1, length-drop line text, line_size.1))

pub next_request-size : (text : List ℕ) (x : Parsed × ℕ) → next_request text ≡ Some x → (0 < x.1) × (x.1 ≤ length text)
unfolding next_request
next_request-size text x e = next_by-size (first_line text) text x refl e

-- what is left after a request is shorter
left : (n : ℕ) (text : List ℕ) (x : Parsed × ℕ) → next_request text ≡ Some x → length text ≤ suc n → length (drop x.1 text) ≤ n
left n text x e h = let size = next_request-size text x e in omega (arith, size.0, size.1, length-drop x.1 text)

-- the step of two recursions that agree on what is left
same_step : (o : Option (Parsed × ℕ)) (text : List ℕ) (f g : List ℕ → List Parsed) → ((x : Parsed × ℕ) → o ≡ Some x → f (drop x.1 text) ≡ g (drop x.1 text)) → requests_from o text f ≡ requests_from o text g
same_step None text f g h = refl
same_step (Some x) text f g h = ap (λ (ts : List Parsed). x.0 ∷ (if ends x.0 then [] else ts)) (h x refl)

next_request-nil : (text : List ℕ) → length text ≤ 0 → next_request text ≡ None
unfolding next_request
next_request-nil [] h = rw first_line-nil refl
next_request-nil (b ∷ bs) h = absurd (omega arith)

-- more steps than bytes change nothing
enough : (n m : ℕ) (text : List ℕ) → length text ≤ n → length text ≤ m → requests_within n text ≡ requests_within m text
unfolding requests_within
enough zero zero text p q = refl
enough zero (suc m) text p q = rw (next_request-nil text p) refl
enough (suc n) zero text p q = rw (next_request-nil text q) refl
enough (suc n) (suc m) text p q =
    same_step (next_request text) text (requests_within n) (requests_within m)
    (λ x e. enough n m (drop x.1 text) (left n text x e p) (left m text x e q))

-- the requests of a text are its first one and those of what is left
pub requests-step : (text : List ℕ) → requests_of text ≡ requests_from (next_request text) text requests_of
unfolding requests_of requests_within
requests-step text =
    enough (length text) (suc (length text)) text (omega arith) (omega arith)
    ∙ same_step (next_request text) text (requests_within (length text)) requests_of
    (λ x e. enough (length text) (length (drop x.1 text)) (drop x.1 text) (omega (arith, length-drop x.1 text)) (omega arith))

-- what is at the front, by the first line
pub next_from : (u : List ℕ) (l : FirstLine) → first_line u ≡ l → next_request u ≡ next_by l u
unfolding next_request
next_from u l e = rw e refl

next_by-more : (l : FirstLine) (u more : List ℕ) (x : Parsed × ℕ) → first_line u ≡ l → next_by l u ≡ Some x → next_request (u ++ more) ≡ Some x
next_by-more lines.Partial u more x h e = absurd cc
next_by-more lines.TooLong u more x h e = next_from (u ++ more) lines.TooLong (first_line_too_long-more u more h) ∙ e
next_by-more (lines.Whole content line) u more x h e =
    let here = first_line_whole-size u content line h in
    next_from (u ++ more) (lines.Whole content line) (first_line_whole-more u more content line h)
    ∙ rw (drop-append-le line u more here.1) (taken_by-more (meaning (words content)) line (drop line u) more x e)

-- bytes that arrive later change no whole request
pub next_request-more : (u more : List ℕ) (x : Parsed × ℕ) → next_request u ≡ Some x → next_request (u ++ more) ≡ Some x
unfolding next_request
next_request-more u more x e = next_by-more (first_line u) u more x refl e

-- the first is taken
pub takes : (u : List ℕ) (x : Parsed × ℕ) → next_request u ≡ Some x → (more : List ℕ) → requests_of (u ++ more) ≡ x.0 ∷ (if ends x.0 then [] else requests_of (drop x.1 u ++ more))
takes u x e more =
    let size = next_request-size u x e in
    requests-step (u ++ more) ∙ rw (next_request-more u more x e, drop-append-le x.1 u more size.1) refl

-- there is none yet
pub waits : (u : List ℕ) → next_request u ≡ None → requests_of u ≡ []
waits u e = requests-step u ∙ rw e refl

-- the requests of a longer text are those of a text, followed by others
abbrev GoesOn : List ℕ → List ℕ → Type 0
GoesOn text more = (others : List Parsed) × (requests_of (text ++ more) ≡ requests_of text ++ others)

goes_on_after : (text more : List ℕ) (x : Parsed × ℕ) (ending : Bool) → next_request text ≡ Some x → ends x.0 ≡ ending → GoesOn (drop x.1 text) more → GoesOn text more
goes_on_after text more x true e h again =
    let first : requests_of text ≡ x.0 ∷ (if ends x.0 then [] else requests_of (drop x.1 text)) = requests-step text ∙ rw e refl in
    ([], (rw h at (takes text x e more)) ∙ sym (ap (λ (ts : List Parsed). ts ++ []) (rw h at first)))
goes_on_after text more x false e h again =
    let first : requests_of text ≡ x.0 ∷ (if ends x.0 then [] else requests_of (drop x.1 text)) = requests-step text ∙ rw e refl in
    (again.0, (rw h at (takes text x e more)) ∙ ap (λ (ts : List Parsed). x.0 ∷ ts) again.1 ∙ sym (ap (λ (ts : List Parsed). ts ++ again.0) (rw h at first)))

goes_on_by : (o : Option (Parsed × ℕ)) (text more : List ℕ) → next_request text ≡ o → ((x : Parsed × ℕ) → next_request text ≡ Some x → GoesOn (drop x.1 text) more) → GoesOn text more
goes_on_by None text more e again = (requests_of (text ++ more), rw (waits text e) refl)
goes_on_by (Some x) text more e again = goes_on_after text more x (ends x.0) e refl (again x e)

goes_on_within : (n : ℕ) (text more : List ℕ) → length text ≤ n → GoesOn text more
goes_on_within zero text more h = (requests_of (text ++ more), rw (waits text (next_request-nil text h)) refl)
goes_on_within (suc n) text more h =
    goes_on_by (next_request text) text more refl (λ x e. goes_on_within n (drop x.1 text) more (left n text x e h))

pub goes_on : (text more : List ℕ) → (others : List Parsed) × (requests_of (text ++ more) ≡ requests_of text ++ others)
goes_on text more = goes_on_within (length text) text more (omega arith)
