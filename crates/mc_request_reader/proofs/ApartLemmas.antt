-- A line and what has arrived after it, kept apart.
use Rattle.std.proofs.Common.{◌≡◌, ◌∙◌, ℕ, suc, zero, ◌+◌, ◌-◌, ◌<◌, ◌≤◌, true, false, IsTrue, nat_le, inl, inr, List, [], ◌∷◌, ◌++◌, length, get_or, take, drop, Option, Some, None, is_some, refl, sym, ap, arith, eqb, nat_lt, length-append}
use Rattle.std.specs.Prelude.{IfSome}
use Rattle.mc_request_reader.specs.declared.peeks.TakenSet.{TakenSet}
use Rattle.std.specs.Option.{option_map}
use Rattle.std.proofs.lemmas.List.{get_or-take, length-take}
use Rattle.std.proofs.lemmas.List.Sums.{fails_before_first, passes_at_first}
use Rattle.std.proofs.Math.Seq.{drop-append-add}
use Rattle.mc_text.specs.Lines.{line_end, first_line, Whole}
use Rattle.mc_text.proofs.PlaceLemmas.{position_some, position_at}
use Rattle.mc_text.proofs.LineLemmas.{line_end_inside, first_line_whole, first_line-at}
use Rattle.std.specs.Str.Lines.{strip_carriage_return}
use Rattle.mc_request.specs.Meanings.{Meaning, PendingStore, Stores}
use Rattle.mc_request.specs.Requests.{taken_by, with_block, next_request, requests_of, requests_within, ends}
use Rattle.mc_request.specs.declared.parts.Parsed.{Parsed}
use Rattle.mc_request_reader.specs.declared.peeks.Front.{Front}
use Rattle.mc_request_reader.specs.Steps.{StartsBy}
use Rattle.mc_request_reader.specs.Reader.{ReaderState, fresh_reader, rest_of, KeepsRest, KeepsLittle}
use Rattle.mc_request_reader.specs.Peeks.{HasNone, IsFirst, Shows, front_of, past}
use Rattle.mc_request_reader.specs.Hosts.{begins_host, names_host}
use Rattle.mc_request_reader.specs.ApartFields.{IsLine, Announces, front_at, joined, set_with}
use Rattle.mc_request_reader.specs.ApartReaderFields.{state_by, IsIdleWhile}
use Rattle.mc_request_reader.proofs.ReaderLemmas.{whole_is_first, none_yet, ready_by, shows_whole}
use Rattle.mc_request_reader.proofs.StepLemmas.{come_by}
use Rattle.std.proofs.lemmas.Bool.{cases_lt}

-- a line with its end, cut out of its text
line_end-take : (text : List ℕ) (e : ℕ) → line_end text ≡ Some e → line_end (take (e + 1) text) ≡ Some e
unfolding line_end
line_end-take text e h =
    let p = λ (b : ℕ). eqb b 10 in
    let front = take 65536 text in
    let parts = position_some p front e h in
    let here : e < length text = omega (arith, parts.1, length-take 65536 text) in
    let low : e < 65536 = omega (arith, parts.1, length-take 65536 text) in
    let same = λ (k : ℕ) (lt : k < suc e). get_or-take 65536 (take (e + 1) text) k 0 (omega arith) ∙ get_or-take (e + 1) text k 0 (omega arith) ∙ sym (get_or-take 65536 text k 0 (omega arith)) in
    position_at p (take 65536 (take (e + 1) text)) e (omega (arith, length-take 65536 (take (e + 1) text), length-take (e + 1) text))
    (λ k lt. rw (same k (omega arith)) (fails_before_first p front k 0 (rw parts.0 lt)))
    (rw (same e (omega arith)) (let at = passes_at_first p front 0 (rw parts.0 parts.1) in rw parts.0 at at))

-- the first line of a text by itself
pub line_of_text : (text content : List ℕ) (n : ℕ) → first_line text ≡ Whole content n → IsLine (take n text)
line_of_text text content n e =
    let parts = first_line_whole text content n e in
    let inside = line_end_inside text parts.0 parts.1 in
    let len : length (take (parts.0 + 1) text) ≡ parts.0 + 1 = omega (arith, length-take (parts.0 + 1) text) in
    rw parts.3 (record {
      some = omega arith;
      ends = line_end-take text parts.0 parts.1 ∙ ap (λ (k : ℕ). Some k) (let k : parts.0 ≡ length (take (parts.0 + 1) text) - 1 = omega arith in k);
    })

-- it is the first line of itself
pub line_is : (line : List ℕ) → IsLine line → first_line line ≡ Whole (strip_carriage_return (take (length line - 1) line)) (length line)
line_is line h =
    let n : length line - 1 + 1 ≡ length line = omega (arith, h.some) in
    first_line-at line (length line - 1) h.ends ∙ ap (λ (k : ℕ). Whole (strip_carriage_return (take (length line - 1) line)) k) n

other_letter : (rest : List ℕ) → begins_host (115 ∷ rest) ≡ false
other_letter [] = refl
other_letter (a ∷ []) = refl
other_letter (a ∷ b ∷ []) = refl
other_letter (a ∷ b ∷ c ∷ []) = refl
other_letter (a ∷ b ∷ c ∷ d ∷ rest) = refl

-- what begins with `s` names no host
pub known_by : (piece line more : List ℕ) (n : ℕ) → get_or piece 0 0 ≡ 115 → 0 < n → n ≤ length piece → line ≡ take n piece → names_host (line ++ more) ≡ false
known_by [] line more n first some size is = absurd (omega (arith, some, size))
known_by (b ∷ bs) line more (suc n) first some size is = rw (is, first) (other_letter (take n bs ++ more))
known_by (b ∷ bs) line more zero first some size is = absurd (omega (arith, some))

drop_whole : (line after : List ℕ) → drop (length line) line ++ after ≡ after
drop_whole [] after = refl
drop_whole (b ∷ bs) after = drop_whole bs after

-- what a line asks for, with what arrives after it
pub next_by_line : (line after : List ℕ) (m : Meaning) → StartsBy line m (length line) → next_request (line ++ after) ≡ taken_by m (length line) after
next_by_line line after m h = h.next after ∙ ap (λ (rest : List ℕ). taken_by m (length line) rest) (drop_whole line after)

stores_whole_after : (s : PendingStore) (n len : ℕ) (after : List ℕ) → len + 2 ≤ length after
    → taken_by (Stores s len) n after ≡ Some (with_block s (take len after) (take 2 (drop len after)), n + (len + 2))
stores_whole_after s n len after enough = let test : nat_lt (length after) (len + 2) ≡ false = grind (arith, enough) in rw test refl

some_by : {A B : Type 0} (f : A → B) (o : Option A) (y : B) → option_map f o ≡ Some y → is_some o ≡ true
some_by f None y e = absurd cc
some_by f (Some x) y e = refl

none_by : {A B : Type 0} (f : A → B) (o : Option A) (y : B) → option_map f o ≡ Some y → o ≡ None → ⊥
none_by f None y e none = cc
none_by f (Some x) y e none = cc

-- what has arrived is whole as soon as `wanted` bytes have arrived after the line
whole_beside : (line after : List ℕ) (wanted : ℕ) → Announces line wanted → wanted ≤ length after → is_some (next_request (line ++ after)) ≡ true
whole_beside line after wanted h enough = some_by front_at (next_request (line ++ after)) _ (h.whole after enough)

pub come_beside : (line after : List ℕ) (wanted : ℕ) → Announces line wanted → nat_le wanted (length after) ≡ is_some (next_request (line ++ after))
come_beside line after wanted h = come_by (next_request (line ++ after)) (length after) wanted (h.short after) (whole_beside line after wanted h)

few_beside : (line after : List ℕ) (wanted : ℕ) → Announces line wanted → rest_of (joined line after) [] ≡ [] → length after < wanted
few_beside line after wanted h none = elim (cases_lt (length after) wanted) [
  | inl short ↦ short
  | inr enough ↦ absurd (whole_is_first (joined line after) refl refl (whole_beside line after wanted h enough) none)
]

-- what is kept apart is within the bound of what is kept
pub little_beside : (line after : List ℕ) (wanted : ℕ) → Announces line wanted → KeepsLittle (joined line after)
little_beside line after wanted h = record {
  most = omega (arith, length-append line after);
  limit = λ none. omega (arith, h.limit, few_beside line after wanted h none);
}

pub short_beside : (line after : List ℕ) (wanted : ℕ) → Announces line wanted → length after < wanted → HasNone (joined line after) (joined line after)
short_beside line after wanted h short = none_yet (joined line after) (joined line after) refl refl refl (h.short after short)

pub ready_beside : (line after : List ℕ) (wanted n : ℕ) → Announces line wanted → n ≡ length after
    → (IsTrue (nat_le wanted n) → 0 < length (rest_of (joined line after) [])) × (0 < length (rest_of (joined line after) []) → IsTrue (nat_le wanted n))
ready_beside line after wanted n h n_is = ready_by (joined line after) (nat_le wanted n) refl refl (rw n_is (come_beside line after wanted h))

-- the end of the first that was shown
front_beside : (line after : List ℕ) (wanted : ℕ) (front : Front) → Announces line wanted → front_of (joined line after) ≡ Some front
    → (wanted ≤ length after) × (front ≡ record { size = length line + wanted; closes = false })
front_beside line after wanted front h shown = elim (cases_lt (length after) wanted) [
  | inl short ↦ absurd (none_by front_at (next_request (line ++ after)) front shown (h.short after short))
  | inr enough ↦ let same : Some front ≡ Some (record { size = length line + wanted; closes = false }) = sym shown ∙ h.whole after enough in (enough, cc)
]

-- what follows it
pub rest_beside : (line after : List ℕ) (wanted : ℕ) (front : Front) (new : ReaderState) → Announces line wanted → front_of (joined line after) ≡ Some front
    → ((text : List ℕ) → rest_of new text ≡ requests_of (drop wanted after ++ text)) → new.closed ≡ false → KeepsRest (past front (joined line after)) new
rest_beside line after wanted front new h shown rest unclosed =
    let is = front_beside line after wanted front h shown in
    rw is.1 (record {
      rest = λ text. rest text ∙ rw (drop-append-add line after wanted) refl;
      closed = unclosed;
    })

first_is : (ts : List Parsed) → (ts ≡ [] → ⊥) → 0 < length ts
first_is [] some = absurd (some refl)
first_is (t ∷ ts) some = omega arith

pub alone_beside : (line after : List ℕ) (wanted : ℕ) → Announces line wanted → wanted ≤ length after → 0 < length (rest_of (joined line after) [])
alone_beside line after wanted h enough = first_is (rest_of (joined line after) []) (whole_is_first (joined line after) refl refl (whole_beside line after wanted h enough))

-- all that has arrived is consumed
pub first_beside : (line after : List ℕ) (x : Parsed) → next_request (line ++ after) ≡ Some (x, length (line ++ after)) → ends x ≡ false → IsFirst (joined line after) x fresh_reader
first_beside line after x e goes_on =
    let shows = shows_whole (joined line after) x (record { size = length (line ++ after); closes = false }) refl refl (sym goes_on) e in
    record { rest = λ text. shows.first.rest text ∙ ap (λ (bytes : List ℕ). x ∷ requests_of bytes) (drop_whole (line ++ after) text) }

-- a `set` by itself is what its line asks for
pub set_known : (line after : List ℕ) (s : PendingStore) (len : ℕ) (r : Option TakenSet) → StartsBy line (Stores s len) (length line)
    → IfSome r (λ set. length after ≡ len + 2)
    → IfSome r (λ set. with_block s (take len after) (take 2 (drop len after)) ≡ set_with set (take len after))
    → IfSome r (λ set. next_request (line ++ after) ≡ Some (set_with set (take (length after - 2) after), length (line ++ after)))
set_known line after s len (Some set) starts long is =
    let len_is : length after - 2 ≡ len = omega arith in
    let size_is : length (line ++ after) ≡ length line + (len + 2) = omega (arith, length-append line after) in
    rw (len_is, size_is, ← is) (next_by_line line after (Stores s len) starts ∙ stores_whole_after s (length line) len after (omega arith))
set_known line after s len None starts long is = tt

-- nothing is first in a reader to which nothing has arrived
fresh_rest : rest_of fresh_reader [] ≡ []
unfolding requests_of requests_within
fresh_rest = refl

none_shown : (s : ReaderState) (what : Parsed) (front : Front) → s ≡ fresh_reader → Shows s what front → ⊥
none_shown s what front fresh shows =
    let none : rest_of s [] ≡ [] = ap (λ (r : ReaderState). rest_of r []) fresh ∙ fresh_rest in
    let first = sym none ∙ shows.first.rest [] in
    absurd cc

-- what is first beside what is kept apart is first
pub shown_beside : (apart : Option ReaderState) (others : ReaderState) (what : Parsed) (front : Front) → IsIdleWhile apart others → Shows others what front
    → Shows (state_by apart others) what front
shown_beside None others what front idle shows = shows
shown_beside (Some apart) others what front idle shows = absurd (none_shown others what front idle.0 shows)
