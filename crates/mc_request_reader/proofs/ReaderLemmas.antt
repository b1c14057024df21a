-- What a reader stands for after a step.
use Rattle.std.proofs.Common.{◌≡◌, ◌∙◌, ℕ, suc, zero, ◌-◌, ◌*◌, ◌<◌, ◌≤◌, Bool, true, false, List, [], ◌∷◌, ◌++◌, length, drop, Option, Some, None, is_some, IsTrue, nat_lt, min, if◌then◌else◌, refl, sym, ap, arith, append_assoc, length-append, length-drop}
use Rattle.std.specs.Option.{option_map}
use Rattle.std.proofs.lemmas.List.{get_or_append_left, drop-drop, drop-append-le, append-nil}
use Rattle.std.proofs.Math.Seq.{drop-append-add}
use Rattle.mc_text.specs.Lines.{HasNoLineFeed}
use Rattle.mc_text.proofs.LineLemmas.{line_end-more, first_line_too_long-more}
use Rattle.mc_request.specs.declared.faults.Fault.{Fault}
use Rattle.mc_request.specs.declared.parts.Parsed.{Parsed}
use Rattle.mc_request.specs.declared.parts.Parsed.TheVariants.{Faulty}
use Rattle.mc_request_reader.specs.declared.peeks.Front.{Front}
use Rattle.mc_request.specs.Faults.{closes}
use Rattle.mc_request_reader.specs.declared.searched.Searched.{Searched}
use Rattle.mc_request_reader.specs.declared.searched.Searched.TheVariants as searches
use Rattle.mc_request_reader.specs.declared.peeks.Look.{Look}
use Rattle.mc_request_reader.specs.declared.peeks.Look.TheVariants as looks
use Rattle.mc_request_reader.specs.Steps.{IsSearched, IsSeen, IsShortOf, IsWholeFrom}
use Rattle.mc_request.specs.Requests.{next_request, requests_from, requests_of, ends}
use Rattle.mc_request_reader.specs.Reader.{ReaderState, rest_of, rest_from, most_held, KeepsRest, KeepsLittle}
use Rattle.mc_request_reader.specs.UnreadFields.{IsUnread}
use Rattle.mc_request_reader.specs.declared.unread.Unread.TheInside.{Inside}
use Rattle.mc_request_reader.specs.Peeks.{HasNone, IsFirst, IsWellFormedLook, Looks, Shows, front_by, front_of, first_by, get_of, past}
use Rattle.mc_request.proofs.RequestLemmas.{given, next_request-size, requests-step, takes, waits}
use Rattle.mc_request.proofs.WellFormedLemmas.{next_request_good}
use Rattle.mc_request_reader.proofs.StepLemmas.{same_test}

after_taken : (b : Bool) (bytes : List ℕ) → (if b then [] else requests_of bytes) ≡ rest_from b None bytes
after_taken true bytes = refl
after_taken false bytes = refl

-- a look at a whole request or fault
pub shows_whole : (s : ReaderState) (x : Parsed) (front : Front) → s.closed ≡ false → s.dropping ≡ None → front.closes ≡ ends x → next_request s.unread ≡ Some (x, front.size) → Shows s x front
shows_whole s x front unclosed none closes_is e = record {
  front_is = rw (unclosed, none, e, closes_is) refl;
  closes = closes_is;
  first = record { rest = λ text. rw (unclosed, none, closes_is) (takes s.unread (x, front.size) e text ∙ ap (λ (ts : List Parsed). x ∷ ts) (after_taken (ends x) (drop front.size s.unread ++ text))) };
}

first_size : (dropping : Option (Fault × ℕ)) (unread : List ℕ) (x : Parsed × ℕ) → first_by dropping unread ≡ Some x → x.1 ≤ length unread
first_size None unread x e = (next_request-size unread x e).1
first_size (Some d) unread x e = grind (arith, nat_lt, given)

-- a test that gave an option
passed : {A : Type 0} (b : Bool) (o : Option A) (y : A) → (if b then None else o) ≡ Some y → o ≡ Some y
passed true o y e = absurd cc
passed false o y e = e

abbrev front_at : Parsed × ℕ → Front
front_at x = record { size = x.1; closes = ends x.0 }

front_size_by : (dropping : Option (Fault × ℕ)) (unread : List ℕ) (o : Option (Parsed × ℕ)) (front : Front) → first_by dropping unread ≡ o
    → option_map front_at o ≡ Some front → front.size ≤ length unread
front_size_by dropping unread None front e is = absurd cc
front_size_by dropping unread (Some x) front e is = grind (arith, first_size)

-- what a look showed has arrived
pub front_size : (s : ReaderState) (front : Front) → front_of s ≡ Some front → front.size ≤ length s.unread
front_size s front is =
    front_size_by s.dropping s.unread (first_by s.dropping s.unread) front refl (passed s.closed (option_map front_at (first_by s.dropping s.unread)) front is)

-- what was searched stays so when more arrives
scanned_more : (scanned : ℕ) (u more : List ℕ) → HasNoLineFeed scanned u → HasNoLineFeed scanned (u ++ more)
scanned_more scanned u more h = grind (arith, length-append, get_or_append_left)

pub searched_more : (known : Searched) (u more : List ℕ) → IsSearched known u → IsSearched known (u ++ more)
searched_more (searches.Without count) u more h = scanned_more count u more h
searched_more (searches.Ends end) u more h = line_end-more u more end h
searched_more searches.TooLong u more h = first_line_too_long-more u more h

pub short_more : (wanted : ℕ) (u more : List ℕ) → IsShortOf wanted u → IsShortOf wanted (u ++ more)
short_more wanted u more h rest short = rw append_assoc (h (more ++ rest) (rw append_assoc at short))

pub sure_more : (wanted : ℕ) (u more : List ℕ) → IsWholeFrom wanted u → IsWholeFrom wanted (u ++ more)
sure_more wanted u more h rest enough = rw append_assoc (h (more ++ rest) (rw append_assoc at enough))

not_none : {A : Type 0} {x : A} {xs : List A} → x ∷ xs ≡ [] → ⊥
not_none e = cc

from_whole : (o : Option (Parsed × ℕ)) (text : List ℕ) → is_some o ≡ true → requests_from o text requests_of ≡ [] → ⊥
from_whole None text some e = cc
from_whole (Some x) text some e = cc

-- nothing is whole
pub none_yet : (old new : ReaderState) → new ≡ old → old.closed ≡ false → old.dropping ≡ None → next_request old.unread ≡ None → HasNone old new
none_yet old new same unclosed none e = grind (arith, append-nil, waits)

-- something is whole, so there is a first
pub whole_is_first : (s : ReaderState) → s.closed ≡ false → s.dropping ≡ None → is_some (next_request s.unread) ≡ true → rest_of s [] ≡ [] → ⊥
whole_is_first s unclosed none some e =
    from_whole (next_request s.unread) s.unread some (sym (requests-step s.unread) ∙ rw (unclosed, none, append-nil) at e)

-- what is kept if nothing is closed or dropped
most_open : (s : ReaderState) → s.closed ≡ false → s.dropping ≡ None → s.held ≤ 2 * length s.unread → s.held ≤ most_held s
most_open s unclosed none half = rw (unclosed, none) half

-- if something is whole, they are bounded by those that are not consumed
pub little_whole : (s : ReaderState) → s.closed ≡ false → s.dropping ≡ None → s.held ≤ 2 * length s.unread → is_some (next_request s.unread) ≡ true → KeepsLittle s
little_whole s unclosed none half some = grind (arith, whole_is_first, most_open)

pub half_of : (r : Inside) → IsUnread r → length r.buffer.items ≤ 2 * length (drop r.start r.buffer.items)
half_of r h = omega (arith, h.half, length-drop r.start r.buffer.items)

-- the state after what closes
pub rest_closed : (s : ReaderState) (text : List ℕ) → s.closed ≡ true → rest_of s text ≡ []
rest_closed s text closed = rw closed refl

-- the requests of a text whose first block is dropped
drops : (u : List ℕ) (f : Fault) (size : ℕ) → closes f ≡ false → length u < size
    → ((more : List ℕ) → next_request (u ++ more) ≡ (if nat_lt (length (u ++ more)) size then None else Some (Faulty f, size)))
    → (more : List ℕ) → requests_of (u ++ more) ≡ rest_from false (Some (f, size - length u)) more
drops u f size ok short h more =
    let test : nat_lt (length more) (size - length u) ≡ nat_lt (length (u ++ more)) size =
    same_test (length more) (size - length u) (length (u ++ more)) size (λ h. omega (arith, length-append u more)) (λ h. omega (arith, length-append u more)) in
    grind (arith, nat_lt, drop-append-add, requests-step)

-- a block begins to be dropped
pub rest_drops : (s new : ReaderState) (f : Fault) (size : ℕ) → s.closed ≡ false → s.dropping ≡ None → new.closed ≡ false → new.dropping ≡ Some (f, size - length s.unread) → new.unread ≡ []
    → closes f ≡ false → length s.unread < size
    → ((more : List ℕ) → next_request (s.unread ++ more) ≡ (if nat_lt (length (s.unread ++ more)) size then None else Some (Faulty f, size)))
    → KeepsRest s new
rest_drops s new f size unclosed none new_unclosed new_dropping new_unread ok short h = grind (arith, drops)

only_zero : (left n : ℕ) → (0 < left → suc n ≡ 0) → left ≡ 0
only_zero zero n h = refl
only_zero (suc left) n h = let e : suc n ≡ 0 = h (omega arith) in absurd (omega arith)

-- the rest after a piece, part of which is dropped
dropped : (f : Fault) (left k : ℕ) (u piece text : List ℕ) → (0 < left → length u ≡ 0) → k ≡ min left (length piece)
    → rest_from false (Some (f, left - k)) (u ++ drop k piece ++ text) ≡ rest_from false (Some (f, left)) (u ++ (piece ++ text))
dropped f left k [] piece text empty k_is =
    let cut : drop k (piece ++ text) ≡ drop k piece ++ text = drop-append-le k piece text (omega arith) in
    grind (arith, nat_lt, length-append, length-drop, drop-drop, same_test)
dropped f left k (b ∷ bs) piece text empty k_is = grind (arith, append_assoc, only_zero)

-- a piece arrives while a block is dropped
pub piece_dropped : (u new piece kept : List ℕ) (f : Fault) (left k : ℕ) (text : List ℕ) → (0 < left → length u ≡ 0) → k ≡ min left (length piece) → new ≡ u ++ kept → kept ≡ drop k piece
    → rest_from false (Some (f, left - k)) (new ++ text) ≡ rest_from false (Some (f, left)) (u ++ (piece ++ text))
piece_dropped u new piece kept f left k text empty k_is new_is kept_is = rw (new_is, kept_is) (dropped f left k u piece text empty k_is)

ready_from : (o : Option (Parsed × ℕ)) (text : List ℕ) (rest : List Parsed) (b : Bool) → rest ≡ requests_from o text requests_of → b ≡ is_some o → (IsTrue b → 0 < length rest) × (0 < length rest → IsTrue b)
ready_from None text rest b e is = (λ t. absurd cc, λ lt. let none : length rest ≡ 0 = rw e refl in absurd (omega (arith, none, lt)))
ready_from (Some x) text rest b e is = grind arith

-- whether something is whole, if no block is dropped
pub ready_by : (s : ReaderState) (b : Bool) → s.closed ≡ false → s.dropping ≡ None → b ≡ is_some (next_request s.unread) → (IsTrue b → 0 < length (rest_of s [])) × (0 < length (rest_of s []) → IsTrue b)
ready_by s b unclosed none is =
    ready_from (next_request s.unread) s.unread (rest_of s []) b (rw (unclosed, none, append-nil) (requests-step s.unread)) is

-- what a look showed is the first, once it is taken
pub shown_is_first : (old : ReaderState) (what : Parsed) (front : Front) (new : ReaderState) → Shows old what front → KeepsRest (past front old) new → IsFirst old what new
shown_is_first old what front new shows keeps = record { rest = λ text. shows.first.rest text ∙ ap (λ (ts : List Parsed). what ∷ ts) (sym (keeps.rest text)) }

pub shown_closes : (old : ReaderState) (what : Parsed) (front : Front) (new : ReaderState) → Shows old what front → KeepsRest (past front old) new → new.closed ≡ ends what
shown_closes old what front new shows keeps = keeps.closed ∙ shows.closes

-- what a look showed is still first
pub shown_waits : (s : ReaderState) (what : Parsed) (front : Front) → Shows s what front → rest_of s [] ≡ what ∷ rest_of (past front s) []
shown_waits s what front shows = shows.first.rest []

-- a fast look at the bytes is one at the reader
pub look_by : (s : ReaderState) (look : Look) → s.closed ≡ false → s.dropping ≡ None → IsSeen s.unread look → Looks s look
look_by s looks.More unclosed none seen = none_yet s s refl unclosed none seen
look_by s (looks.Get get) unclosed none seen = shows_whole s (get_of get) get.front unclosed none seen.1 seen.0
look_by s (looks.Line line) unclosed none seen = λ what alone. shows_whole s what (front_by line what) unclosed none refl (seen what alone)
look_by s looks.Other unclosed none seen = tt

-- and what it borrows is well formed
pub look_good : (unread : List ℕ) (look : Look) → IsSeen unread look → IsWellFormedLook look
look_good unread looks.More seen = tt
look_good unread (looks.Get get) seen = next_request_good unread (get_of get, get.front.size) seen.0
look_good unread (looks.Line line) seen = λ what alone. next_request_good unread (what, line.size) (seen what alone)
look_good unread looks.Other seen = tt
