-- What the first line of bytes says of all texts that begin with them.
use Rattle.std.proofs.Common.{◌≡◌, ℕ, ◌+◌, ◌-◌, if◌then◌else◌, ◌<◌, ◌≤◌, true, false, List, [], ◌∷◌, ◌++◌, length, take, drop, Option, Some, None, refl, sym, ap, ◌∙◌, arith, nat_lt, nat_le, is_some, length-append, length-drop}
use Rattle.std.proofs.lemmas.Bool.{cases_lt}
use Rattle.std.proofs.lemmas.List.{drop-append-le, append-nil}
use Rattle.mc_text.specs.Lines as lines
use Rattle.mc_text.specs.Lines.{first_line, line_end}
use Rattle.mc_text.specs.Words.{words}
use Rattle.mc_text.proofs.LineLemmas.{first_line_whole, first_line_whole-size, first_line_whole-limit, first_line_whole-more}
use Rattle.mc_request.specs.Meanings.{Meaning, PendingStore, Alone, Stores, Refuses, meaning}
use Rattle.mc_request.proofs.RequestLemmas.{next_from, next_request-more}
use Rattle.mc_request.proofs.WellFormedLemmas.{block_in}
use Rattle.mc_request_reader.specs.Steps.{StartsBy, IsShortOf, IsWholeFrom}
use Rattle.mc_request.specs.Requests.{taken_by, with_block, next_request}
use Rattle.mc_request.specs.declared.faults.Fault.{Fault}
use Rattle.mc_request.specs.declared.faults.Fault.TheVariants.{LineTooLong}
use Rattle.mc_request.specs.declared.parts.Parsed.{Parsed}
use Rattle.mc_request.specs.declared.parts.Parsed.TheVariants.{Faulty}

-- a line that has not arrived whole
pub partial_none : (u : List ℕ) → first_line u ≡ lines.Partial → next_request u ≡ None
partial_none u e = next_from u lines.Partial e

pub too_long_fault : (u : List ℕ) → first_line u ≡ lines.TooLong → next_request u ≡ Some (Faulty LineTooLong, 65536)
too_long_fault u e = next_from u lines.TooLong e

-- a text that begins with a whole line
pub starts_by : (u content : List ℕ) (line : ℕ) (m : Meaning) → first_line u ≡ lines.Whole content line → meaning (words content) ≡ m → StartsBy u m line
starts_by u content line m e means =
    let here = first_line_whole-size u content line e in
    record {
      size = here;
      limit = first_line_whole-limit u content line e;
      next = λ more. next_from (u ++ more) (lines.Whole content line) (first_line_whole-more u more content line e) ∙ rw (means, drop-append-le line u more here.1) refl;
    }

-- the end of that line
pub line_ends : (u content : List ℕ) (line : ℕ) → first_line u ≡ lines.Whole content line → line_end u ≡ Some (line - 1)
line_ends u content line e = grind (arith, first_line_whole)

-- what holds of the bytes now
pub starts_now : (u : List ℕ) (m : Meaning) (line : ℕ) → StartsBy u m line → next_request u ≡ taken_by m line (drop line u)
starts_now u m line h = ap next_request (sym (append-nil u)) ∙ h.next [] ∙ rw append-nil refl

pub same_test : (a b c d : ℕ) → (a < b → c < d) → (c < d → a < b) → nat_lt a b ≡ nat_lt c d
same_test a b c d f g = grind (arith, nat_lt, cases_lt)

-- how much of a block has arrived, by all bytes and by those after the line
block_test : (u more : List ℕ) (line len : ℕ) → (0 < line) × (line ≤ length u) → nat_lt (length (drop line u ++ more)) (len + 2) ≡ nat_lt (length (u ++ more)) (line + (len + 2))
block_test u more line len size = grind (arith, length-append, length-drop, same_test)

-- a refused block
pub refused : (u : List ℕ) (line : ℕ) (f : Fault) (len : ℕ) → StartsBy u (Refuses f len) line
    → (more : List ℕ) → next_request (u ++ more) ≡ (if nat_lt (length (u ++ more)) (line + (len + 2)) then None else Some (Faulty f, line + (len + 2)))
refused u line f len h more = h.next more ∙ rw (block_test u more line len h.size) refl

-- a block that has not arrived whole, and goes on
pub stores_short : (u : List ℕ) (line : ℕ) (s : PendingStore) (len : ℕ) → StartsBy u (Stores s len) line → IsShortOf (line + (len + 2)) u
stores_short u line s len h more short = grind (arith, nat_lt, block_test)

-- a whole block
pub stores_whole : (u : List ℕ) (line : ℕ) (s : PendingStore) (len : ℕ) → StartsBy u (Stores s len) line → line + (len + 2) ≤ length u
    → next_request u ≡ Some (with_block s (take len (drop line u)) (take 2 (drop len (drop line u))), line + (len + 2))
stores_whole u line s len h enough =
    let test : nat_lt (length (drop line u)) (len + 2) ≡ false = grind (arith, length-drop line u, enough) in
    starts_now u (Stores s len) line h ∙ rw test refl

-- a block that has not arrived whole
pub stores_waits : (u : List ℕ) (line : ℕ) (s : PendingStore) (len : ℕ) → StartsBy u (Stores s len) line → length u < line + (len + 2) → next_request u ≡ None
stores_waits u line s len h short =
    ap next_request (sym (append-nil u)) ∙ stores_short u line s len h [] (rw append-nil short)

pub come_by : (o : Option (Parsed × ℕ)) (n size : ℕ) → (n < size → o ≡ None) → (size ≤ n → is_some o ≡ true) → nat_le size n ≡ is_some o
come_by o n size short whole = grind (arith, nat_le, cases_lt)

-- whether a block has arrived whole, refused or not
pub stores_come : (u : List ℕ) (line : ℕ) (s : PendingStore) (len : ℕ) → StartsBy u (Stores s len) line → nat_le (line + (len + 2)) (length u) ≡ is_some (next_request u)
stores_come u line s len h =
    come_by (next_request u) (length u) (line + (len + 2)) (stores_waits u line s len h) (λ enough. rw (stores_whole u line s len h enough) refl)

pub refuses_come : (u : List ℕ) (line : ℕ) (f : Fault) (len : ℕ) → StartsBy u (Refuses f len) line → nat_le (line + (len + 2)) (length u) ≡ is_some (next_request u)
refuses_come u line f len h =
    let now : next_request u ≡ (if nat_lt (length u) (line + (len + 2)) then None else Some (Faulty f, line + (len + 2))) =
    ap next_request (sym (append-nil u)) ∙ refused u line f len h [] ∙ rw append-nil refl in
    grind (arith, nat_lt, come_by)

-- a refused block, now
refused_now : (u : List ℕ) (line : ℕ) (f : Fault) (len : ℕ) → StartsBy u (Refuses f len) line → next_request u ≡ (if nat_lt (length u) (line + (len + 2)) then None else Some (Faulty f, line + (len + 2)))
refused_now u line f len h = ap next_request (sym (append-nil u)) ∙ refused u line f len h [] ∙ rw append-nil refl

pub refuses_waits : (u : List ℕ) (line : ℕ) (f : Fault) (len : ℕ) → StartsBy u (Refuses f len) line → length u < line + (len + 2) → next_request u ≡ None
refuses_waits u line f len h short =
    let test : nat_lt (length u) (line + (len + 2)) ≡ true = grind (arith, short) in refused_now u line f len h ∙ rw test refl

pub refuses_whole : (u : List ℕ) (line : ℕ) (f : Fault) (len : ℕ) → StartsBy u (Refuses f len) line → line + (len + 2) ≤ length u
    → next_request u ≡ Some (Faulty f, line + (len + 2))
refuses_whole u line f len h enough =
    let test : nat_lt (length u) (line + (len + 2)) ≡ false = grind (arith, enough) in refused_now u line f len h ∙ rw test refl

whole_by : (o : Option (Parsed × ℕ)) (u more : List ℕ) → next_request u ≡ o → is_some o ≡ true → is_some (next_request (u ++ more)) ≡ true
whole_by None u more e some = absurd cc
whole_by (Some x) u more e some = rw (next_request-more u more x e) refl

-- what is whole stays whole
pub whole_more : (u more : List ℕ) → is_some (next_request u) ≡ true → is_some (next_request (u ++ more)) ≡ true
whole_more u more some = whole_by (next_request u) u more refl some

-- what is whole is so with whatever follows
pub whole_from : (u : List ℕ) (wanted : ℕ) → is_some (next_request u) ≡ true → IsWholeFrom wanted u
whole_from u wanted some more enough = whole_more u more some

-- a block that has not arrived whole is whole with its last byte
pub stores_from : (u : List ℕ) (line : ℕ) (s : PendingStore) (len : ℕ) → StartsBy u (Stores s len) line → IsWholeFrom (line + (len + 2)) u
stores_from u line s len h more enough = grind (arith, nat_lt, block_test)

-- if nothing is whole, nothing is before another byte has arrived
pub one_wanted : (u : List ℕ) → next_request u ≡ None → IsShortOf (length u + 1) u
one_wanted u none [] short = rw append-nil none
one_wanted u none (b ∷ bs) short = absurd (omega (arith, short, length-append u (b ∷ bs)))

-- whether what is first has arrived, by the block that its line announces
pub has_come : (u : List ℕ) (line : ℕ) (m : Meaning) → StartsBy u m line → block_in m ≡ None → is_some (next_request u) ≡ true
has_come u line (Alone taken) h none = rw (starts_now u (Alone taken) line h) refl
has_come u line (Stores s len) h none = absurd cc
has_come u line (Refuses f len) h none = absurd cc

pub block_has_come : (u : List ℕ) (line : ℕ) (m : Meaning) (len : ℕ) → StartsBy u m line → block_in m ≡ Some len → nat_le (line + (len + 2)) (length u) ≡ is_some (next_request u)
block_has_come u line (Alone taken) len h block = absurd cc
block_has_come u line (Stores s n) len h block = let same : n ≡ len = cc in rw (← same) (stores_come u line s n h)
block_has_come u line (Refuses f n) len h block = let same : n ≡ len = cc in rw (← same) (refuses_come u line f n h)

-- what is not whole has not arrived
pub not_come : (o : Option (Parsed × ℕ)) → is_some o ≡ false → o ≡ None
not_come None h = refl
not_come (Some x) h = absurd cc

short_of : (o : Option (Parsed × ℕ)) (n size : ℕ) → o ≡ None → nat_le size n ≡ is_some o → n < size
short_of o n size none is = let short : nat_le size n ≡ false = is ∙ rw none refl in grind (arith, short)

-- a block that has not arrived whole is after what has arrived
pub block_is_after : (u : List ℕ) (line : ℕ) (m : Meaning) (len : ℕ) → StartsBy u m line → block_in m ≡ Some len → next_request u ≡ None → length u < line + (len + 2)
block_is_after u line m len h block none = short_of (next_request u) (length u) (line + (len + 2)) none (block_has_come u line m len h block)
