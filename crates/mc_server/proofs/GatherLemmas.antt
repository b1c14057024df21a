-- Answers that are written at once, and what a writer leaves of them.
use Rattle.std.proofs.Common.{◌≡◌, ◌∙◌, ℕ, zero, suc, ◌+◌, ◌-◌, ◌<◌, ◌≤◌, min, nat_lt, Bool, true, false, List, [], ◌∷◌, ◌++◌, length, take, drop, codes, Option, Some, None, Ok, refl, sym, ap, subst, append_assoc, length-append, length-drop, length-take, drop-drop, arith}
use Rattle.std.proofs.KnownBytes.{Appends-nil}
use Rattle.std.proofs.lemmas.Bool.Decides.{nat_tests}
use Rattle.std.proofs.lemmas.List.{drop-append-le, drop_min}
use Rattle.std.specs.Io.KnownBytes.{Keeps}
use Rattle.mc_request.specs.declared.parts.Parsed.{Parsed}
use Rattle.mc_stream.specs.Sides.{Writes}
use Rattle.mc_cache.specs.CacheState.{CacheState}
use Rattle.mc_server.specs.Served.{IsServed}
use Rattle.mc_server.specs.ServerState.{ConnectionState, ServerState}
use Rattle.mc_server.specs.Turns.{IsLimitedTurn, Steps}
use Rattle.mc_server.specs.Gathers.{PutsOut, IsGatheredTurn}
use Rattle.mc_server.specs.declared.turns.Turn.TheVariants.{Took, Idle, Closing}
use Rattle.mc_server.specs.declared.turns.Limited.{Limited}
use Rattle.mc_server.specs.declared.turns.Limited.TheVariants.{Turned, Refused}

-- no key is left
pub none_left : (keys : List (List ℕ)) (more : Bool) → more ≡ nat_lt 0 (length keys) → more ≡ false → keys ≡ []
none_left [] more is ended = refl
none_left (key ∷ keys) more is ended = let none : nat_lt 0 (length (key ∷ keys)) ≡ false = sym is ∙ ended in absurd (grind (arith, nat_tests, none))

-- what is left of two texts, joined
drop-both : (count : ℕ) (xs ys : List ℕ) → drop count (xs ++ ys) ≡ drop count xs ++ drop (count - length xs) ys
drop-both zero xs ys = let none : 0 ≡ 0 - length xs = omega arith in ap (λ (n : ℕ). xs ++ drop n ys) none
drop-both (suc n) [] ys = let all : suc n ≡ suc n - 0 = omega arith in ap (λ (k : ℕ). drop k ys) all
drop-both (suc n) (x ∷ xs) ys =
    let fewer : n - length xs ≡ suc n - length (x ∷ xs) = omega arith in
    drop-both n xs ys ∙ ap (λ (k : ℕ). drop n xs ++ drop k ys) fewer

-- of an output, a value and an end the writer took the first bytes: the others are left behind what was taken out
pub left_behind : (sent went taken : ℕ) (output value end : List ℕ) → sent ≤ length output → taken ≡ min went (length (drop sent output))
    → drop (sent + taken) ((output ++ drop (went - taken) value) ++ drop ((went - taken) - length value) end) ≡ drop went (drop sent output ++ (value ++ end))
left_behind sent went taken output value end inside is =
    let unsent : List ℕ = drop sent output in
    let more : List ℕ = drop (went - taken) value ++ drop ((went - taken) - length value) end in
    let fits : sent + taken ≤ length output = omega (arith, inside, is, length-drop sent output) in
    let beyond : went - taken ≡ went - length (drop sent output) = omega (arith, is) in
    ap (λ (bytes : List ℕ). drop (sent + taken) bytes) (append_assoc output (drop (went - taken) value) (drop ((went - taken) - length value) end))
    ∙ drop-append-le (sent + taken) output more fits
    ∙ ap (λ (bytes : List ℕ). bytes ++ more) (sym (drop-drop taken sent output) ∙ ap (λ (n : ℕ). drop n unsent) is ∙ drop_min went unsent)
    ∙ ap (λ (bytes : List ℕ). drop went unsent ++ bytes) (sym (drop-both (went - taken) value end))
    ∙ ap (λ (n : ℕ). drop went unsent ++ drop n (value ++ end)) beyond
    ∙ sym (drop-both went unsent (value ++ end))

-- what is known of a writer that was given nothing
pub keeps_same : (written : Option (List ℕ)) → Keeps written written
keeps_same None = tt
keeps_same (Some bytes) = refl

-- what goes after an output goes after what is unsent of it
pub served_behind : (number moment sent : ℕ) (s t : CacheState) (what : Parsed) (before after : List ℕ) → sent ≤ length before
    → IsServed number s what moment t before after → IsServed number s what moment t (drop sent before) (drop sent after)
served_behind number moment sent s t what before after fits h = (
  h.0,
  record {
    legal = h.1.legal;
    cache = h.1.cache;
    answered = ap (λ (bytes : List ℕ). drop sent bytes) h.1.answered ∙ drop-append-le sent before _ fits;
  },
)

-- an answer of which nothing was written
pub puts_none : (number moment : ℕ) (written : Option (List ℕ)) (s t : CacheState) (what : Parsed) (before after : List ℕ)
    → IsServed number s what moment t before after → PutsOut number moment 0 written written s t what before after
puts_none number moment written s t what before after h = record {
  whole = after;
  served = h;
  wrote = (omega arith, Appends-nil written);
  left = refl;
  shown = λ some. absurd (omega (arith, some));
}

-- the answer of a hit, of which the line in front is in the output, and what follows that is not
pub puts_hit : (number moment sent went : ℕ) (written written' : Option (List ℕ)) (s t : CacheState) (what : Parsed) (before head more after : List ℕ)
    → sent ≤ length before → sent ≤ length head → IsServed number s what moment t before (head ++ more)
    → (rest : List ℕ) × (head ≡ before ++ (codes "VALUE " ++ rest)) → Writes (Ok went) (drop sent head ++ more) written written'
    → after ≡ drop went (drop sent head ++ more) → PutsOut number moment went written written' s t what (drop sent before) after
puts_hit number moment sent went written written' s t what before head more after inside fits served shown wrote left =
    let P : List ℕ → Type 0 = λ bytes. IsServed number s what moment t (drop sent before) bytes in
    let line : drop sent head ≡ drop sent before ++ (codes "VALUE " ++ shown.0) =
    ap (λ (bytes : List ℕ). drop sent bytes) shown.1 ∙ drop-append-le sent before (codes "VALUE " ++ shown.0) inside in
    record {
      whole = drop sent head ++ more;
      served = subst P (drop-append-le sent head more fits) (served_behind number moment sent s t what before (head ++ more) inside served);
      wrote = wrote;
      left = left;
      shown = λ some. (
        shown.0 ++ more,
        ap (λ (bytes : List ℕ). bytes ++ more) line
            ∙ append_assoc (drop sent before) (codes "VALUE " ++ shown.0) more
            ∙ ap (λ (bytes : List ℕ). drop sent before ++ bytes) (append_assoc (codes "VALUE ") shown.0 more),
      );
    }

-- a turn of which nothing was written
pub gathered_none : (number moment : ℕ) (limited : Limited) (written : Option (List ℕ)) (s t : CacheState) (old new : ConnectionState)
    → IsLimitedTurn number moment limited s t old new → IsGatheredTurn number moment limited 0 written written s t old new
gathered_none number moment (Turned Took) written s t old new h = record {
  what = h.0;
  first = h.1.first;
  closed = h.1.closed;
  put = puts_none number moment written s t h.0 old.output new.output h.1.served;
}
gathered_none number moment (Turned Idle) written s t old new h = (refl, keeps_same written, h)
gathered_none number moment (Turned Closing) written s t old new h = (refl, keeps_same written, h)
gathered_none number moment Refused written s t old new h = (refl, keeps_same written, h)

-- likewise of a server
pub gathered_short : (number moment : ℕ) (limited : Limited) (written : Option (List ℕ)) (old new : ServerState)
    → Steps number old new (IsLimitedTurn number moment limited) → Steps number old new (IsGatheredTurn number moment limited 0 written written)
gathered_short number moment limited written old new steps = record {
  before = steps.before;
  after = steps.after;
  was = steps.was;
  is = steps.is;
  admitted = steps.admitted;
  step = gathered_none number moment limited written old.cache new.cache steps.before steps.after steps.step;
}

-- if the writer can take nothing, nothing was taken
pub ungathered : (number moment went : ℕ) (limited : Limited) (s t : CacheState) (old new : ConnectionState)
    → IsGatheredTurn number moment limited went (Some []) (Some []) s t old new → IsLimitedTurn number moment limited s t old new
ungathered number moment went (Turned Took) s t old new h =
    let nothing : take went h.put.whole ≡ [] = sym h.put.wrote.1 in
    let none : went ≡ 0 = omega (arith, h.put.wrote.0, ap (λ (bytes : List ℕ). length bytes) nothing, length-take went h.put.whole) in
    let stays : h.put.whole ≡ new.output = sym (h.put.left ∙ ap (λ (n : ℕ). drop n h.put.whole) none) in
    let P : List ℕ → Type 0 = λ bytes. IsServed number s h.what moment t old.output bytes in
    (h.what, record { first = h.first; closed = h.closed; served = subst P stays h.put.served })
ungathered number moment went (Turned Idle) s t old new h = h.2
ungathered number moment went (Turned Closing) s t old new h = h.2
ungathered number moment went Refused s t old new h = h.2
