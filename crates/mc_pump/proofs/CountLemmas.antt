-- What a watch counts along stretches: answers for lack of memory, and work.
use Rattle.std.proofs.Common.{◌≡◌, ◌∙◌, ℕ, ◌+◌, ◌-◌, ◌/◌, ◌%◌, ◌^◌, min, ◌<◌, ◌≤◌, List, [], ◌∷◌, ◌++◌, length, drop, Option, Some, IsSome, refl, sym, ap, subst, arith}
use Rattle.std.proofs.lemmas.List.{length-append}
use Rattle.std.proofs.Math.Nat.{mod-add-mod, mod-mod}
use Rattle.std.proofs.Math.Seq.{drop-append_seam}
use Rattle.mc_cache.specs.CacheState.{CacheState}
use Rattle.mc_server.specs.Served.{ServedRequest, answer_after, cache_after}
use Rattle.mc_server.specs.Histories.{replayed}
use Rattle.mc_request_reader.specs.Reader.{rest_of}
use Rattle.mc_server.specs.ServerState.{ConnectionState, Connections, ServerState, connection_at, connection_in, output_of}
use Rattle.mc_request.specs.declared.parts.Parsed.{Parsed}
use Rattle.mc_server.specs.Turns.{IsTurn, Steps, waiting_of}
use Rattle.mc_server.specs.declared.turns.Turn.TheVariants.{Took, Idle, Closing}
use Rattle.mc_server.proofs.ConnectionLemmas.{updated_own}
use Rattle.mc_server.specs.Work.{work_of, work_of_first}
use Rattle.mc_pump.specs.Work.{IsWithin, work_at, work_in}
use Rattle.mc_pump.specs.Counts.{Counted, CountsWithin, refusal_in, refusals_in}
use Rattle.mc_pump.specs.Rounds.{TakesTurns}
use Rattle.mc_pump.specs.Stretches.{ConnectionStretch}
use Rattle.mc_pump.specs.declared.limits.TheConstants.{UNSENT_MARK}
use Rattle.mc_server.specs.declared.limits.TheConstants.{WORK_BYTES}
use Rattle.mc_pump.proofs.StretchLemmas.{closing_takes_none, idle_takes_none, none_takes_none, stretch_closing, stretch_idle, stretch_none, stretch_then, stretch_took, taken_entry, then_takes_both, took_takes_one}
use Rattle.mc_pump.proofs.RoundLemmas.{the_open}
use Rattle.mc_pump.proofs.UnsentLemmas.{unsent_closing, unsent_idle, unsent_same, unsent_then}
use Rattle.mc_pump.specs.Unsent.{IsUnsentWithin}

-- sums of 64 bits, or of any other number
sum_goes_on : (m a b c x y : ℕ) → b % m ≡ (a + x) % m → c % m ≡ (b + y) % m → c % m ≡ (a + (x + y)) % m
sum_goes_on m a b c x y first second =
    second ∙ sym (mod-add-mod b m y) ∙ ap (λ (n : ℕ). (n + y) % m) first ∙ mod-add-mod (a + x) m y
    ∙ ap (λ (n : ℕ). n % m) (omega arith)

sum_stays : (m a : ℕ) → a % m ≡ (a + 0) % m
sum_stays m a = ap (λ (n : ℕ). n % m) (omega arith)

sum_of_one : (m a b x : ℕ) → b ≡ (a + x) % m → b % m ≡ (a + (x + 0)) % m
sum_of_one m a b x e = ap (λ (n : ℕ). n % m) e ∙ mod-mod (a + x) m ∙ ap (λ (n : ℕ). n % m) (omega arith)

-- a history and another one after it
refusals-append : (s : CacheState) (es fs : List ServedRequest) → refusals_in s (es ++ fs) ≡ refusals_in s es + refusals_in (replayed s es) fs
refusals-append s [] fs = omega arith
refusals-append s (e ∷ es) fs = let again = refusals-append (cache_after s e) es fs in omega (arith, again)

-- the work of a history and of another one after it
work-append : (s : CacheState) (es fs : List ServedRequest) → work_in s (es ++ fs) ≡ work_in s es + work_in (replayed s es) fs
work-append s [] fs = omega arith
work-append s (e ∷ es) fs = let again = work-append (cache_after s e) es fs in omega (arith, again)

within-append : (left : ℕ) (s : CacheState) (es fs : List ServedRequest) → IsWithin left s es → IsWithin (left - work_in s es) (replayed s es) fs → IsWithin left s (es ++ fs)
within-append left s [] fs h k = let same : left - 0 ≡ left = omega arith in subst (λ (n : ℕ). IsWithin n s fs) same k
within-append left s (e ∷ es) fs h k =
    let same : left - (work_at s e + work_in (cache_after s e) es) ≡ (left - work_at s e) - work_in (cache_after s e) es = omega arith in
    (h.0, within-append (left - work_at s e) (cache_after s e) es fs h.1 (subst (λ (n : ℕ). IsWithin n (replayed (cache_after s e) es) fs) same k))

-- if each entry is served only while work is left, all but the last one cost less than there is
pub all_but_the_last : (left : ℕ) (s : CacheState) (es : List ServedRequest) (e : ServedRequest) → IsWithin left s (es ++ e ∷ []) → work_in s es < left
all_but_the_last left s [] e h = h.0
all_but_the_last left s (x ∷ es) e h = let again = all_but_the_last (left - work_at s x) (cache_after s x) es e h.1 in omega (arith, again)

-- nothing was taken, and the count is as it was
pub counts_still : (s : CacheState) (history : List ServedRequest) (count count' : Counted) → history ≡ [] → count' ≡ count → CountsWithin s history count count'
counts_still s history count count' none same =
    let P : List ServedRequest → Type 0 = λ es. CountsWithin s es count count in
    let Q : Counted → Type 0 = λ n. CountsWithin s history count n in
    let still : CountsWithin s [] count count = record { refused = sum_stays (2 ^ 64) count.refused; within = tt; left = omega arith; most = refl } in
    subst Q (sym same) (subst P (sym none) still)

-- one entry was served
pub counts_one : (s : CacheState) (history : List ServedRequest) (e : ServedRequest) (count count' : Counted) → history ≡ e ∷ []
    → count'.refused % 2 ^ 64 ≡ (count.refused + (refusal_in (answer_after s e) + 0)) % 2 ^ 64 → 0 < count.left → count'.left ≡ count.left - work_at s e
    → count'.most ≡ count.most → CountsWithin s history count count'
counts_one s history e count count' one refused some left most =
    let P : List ServedRequest → Type 0 = λ es. CountsWithin s es count count' in
    let more : work_at s e ≡ work_at s e + 0 = omega arith in
    let counted : CountsWithin s (e ∷ []) count count' = record { refused = refused; within = (some, tt); left = left ∙ ap (λ (n : ℕ). count.left - n) more; most = most } in
    subst P (sym one) counted

-- one stretch after another
pub counts_then : (number moment : ℕ) (count between count' : Counted) (a b c : ServerState) (came more went yet : List ℕ) (h : ConnectionStretch number moment a b came went) (k : ConnectionStretch number moment b c more yet)
    → CountsWithin a.cache h.history count between → CountsWithin b.cache k.history between count'
    → CountsWithin a.cache (stretch_then number moment a b c came more went yet h k).history count count'
counts_then number moment count between count' a b c came more went yet h k first second =
    let joined : (stretch_then number moment a b c came more went yet h k).history ≡ h.history ++ k.history = then_takes_both number moment a b c came more went yet h k in
    let middle : CacheState = replayed a.cache h.history in
    let later : CountsWithin middle k.history between count' = subst (λ (s : CacheState). CountsWithin s k.history between count') h.cache.cache second in
    let refusals : refusals_in a.cache (h.history ++ k.history) ≡ refusals_in a.cache h.history + refusals_in middle k.history = refusals-append a.cache h.history k.history in
    let work : work_in a.cache (h.history ++ k.history) ≡ work_in a.cache h.history + work_in middle k.history = work-append a.cache h.history k.history in
    let P : ℕ → Type 0 = λ n. count'.refused % 2 ^ 64 ≡ (count.refused + n) % 2 ^ 64 in
    let Q : List ServedRequest → Type 0 = λ es. CountsWithin a.cache es count count' in
    let both : CountsWithin a.cache (h.history ++ k.history) count count' = record {
      refused = subst P (sym refusals) (sum_goes_on (2 ^ 64) count.refused between.refused count'.refused (refusals_in a.cache h.history) (refusals_in middle k.history) first.refused later.refused);
      within = within-append count.left a.cache h.history k.history first.within (subst (λ (n : ℕ). IsWithin n middle k.history) first.left later.within);
      left = omega (arith, first.left, later.left, work);
      most = later.most ∙ first.most;
    } in
    subst Q (sym joined) both

-- no turn was taken yet
pub turns_none : (number moment : ℕ) (count : Counted) (s : ServerState) → IsSome (connection_at s number) → TakesTurns number moment s s count count
turns_none number moment count s there =
    let c = the_open (connection_at s number) there in
    record {
      stretch = stretch_none number moment s c.0 c.1;
      counted = counts_still s.cache _ count count (none_takes_none number moment s c.0 c.1) refl;
      unsent = unsent_same count.most (connection_at s number);
    }

-- turns after turns
turns_then : (number moment : ℕ) (count between count' : Counted) (a b c : ServerState) → TakesTurns number moment a b count between → TakesTurns number moment b c between count'
    → TakesTurns number moment a c count count'
turns_then number moment count between count' a b c h k = record {
  stretch = stretch_then number moment a b c [] [] [] [] h.stretch k.stretch;
  counted = counts_then number moment count between count' a b c [] [] [] [] h.stretch k.stretch h.counted k.counted;
  unsent = unsent_then count.most between.most (connection_at a number) (connection_at b number) (connection_at c number) h.counted.most h.unsent k.unsent;
}

-- a turn found nothing, or that nothing is read any more
pub turns_idle : (number moment : ℕ) (count between : Counted) (a b c : ServerState) → TakesTurns number moment a b count between → Steps number b c (IsTurn number moment Idle)
    → TakesTurns number moment a c count between
turns_idle number moment count between a b c h steps =
    turns_then number moment count between between a b c h (record {
      stretch = stretch_idle number moment b c steps;
      counted = counts_still b.cache _ between between (idle_takes_none number moment b c steps) refl;
      unsent = unsent_idle number moment between.most b c steps;
    })

pub turns_closing : (number moment : ℕ) (count between : Counted) (a b c : ServerState) → TakesTurns number moment a b count between → Steps number b c (IsTurn number moment Closing)
    → TakesTurns number moment a c count between
turns_closing number moment count between a b c h steps =
    turns_then number moment count between between a b c h (record {
      stretch = stretch_closing number moment b c steps;
      counted = counts_still b.cache _ between between (closing_takes_none number moment b c steps) refl;
      unsent = unsent_closing number moment between.most b c steps;
    })

-- a turn that took something appended its answer
turn_output : (number moment : ℕ) (old new : ServerState) (steps : Steps number old new (IsTurn number moment Took))
    → output_of (connection_at new number) ≡ output_of (connection_at old number) ++ answer_after old.cache (taken_entry number moment old new steps)
turn_output number moment old new steps =
    let now : connection_at new number ≡ Some steps.after = ap (λ (cs : Connections). connection_in cs number) steps.is ∙ updated_own number steps.before steps.after old.connections steps.was in
    let was : steps.before.output ≡ output_of (connection_at old number) = sym (ap output_of steps.was) in
    ap output_of now ∙ steps.step.1.served.1.answered ∙ ap (λ (bytes : List ℕ). bytes ++ answer_after old.cache (taken_entry number moment old new steps)) was

pub output_grows : (number moment : ℕ) (old new : ServerState) → Steps number old new (IsTurn number moment Took)
    → length (output_of (connection_at old number)) ≤ length (output_of (connection_at new number))
output_grows number moment old new steps =
    let after : length (output_of (connection_at new number)) ≡ length (output_of (connection_at old number) ++ answer_after old.cache (taken_entry number moment old new steps)) =
    ap (λ (bytes : List ℕ). length bytes) (turn_output number moment old new steps) in
    omega (arith, after, length-append (output_of (connection_at old number)) (answer_after old.cache (taken_entry number moment old new steps)))

-- units of work that saturate are spent as if they did not
pub spent : (units work more left left' : ℕ) → left < 2 ^ 64 → work ≡ min units (2 ^ 64 - 1) → left' ≡ left - (work + more) → left' ≡ left - (units + more)
spent units work more left left' range is by = omega (arith, range, is, by)

-- what is pending first is taken first
pub work_of_taken : (o : Option ConnectionState) (c : ConnectionState) (what : Parsed) (more : List Parsed) (s : CacheState) → o ≡ Some c → rest_of c.reader [] ≡ what ∷ more
    → work_of_first (waiting_of o) s ≡ work_of what s
work_of_taken o c what more s was first = ap (λ (x : Option ConnectionState). work_of_first (waiting_of x) s) was ∙ ap (λ (ts : List Parsed). work_of_first ts s) first

-- a turn took something, and its whole answer was looked at
turn_took : (number moment work : ℕ) (count count' : Counted) (answer : List ℕ) (old new : ServerState) → Steps number old new (IsTurn number moment Took) → length (output_of (connection_at old number)) < UNSENT_MARK
    → 0 < count.left → count.left < 2 ^ 64 → work ≡ min (work_of_first (waiting_of (connection_at old number)) old.cache) (2 ^ 64 - 1)
    → answer ≡ drop (length (output_of (connection_at old number))) (output_of (connection_at new number)) → count'.refused ≡ (count.refused + refusal_in answer) % 2 ^ 64
    → count'.left ≡ count.left - (work + length answer / WORK_BYTES) → count'.most ≡ count.most
    → IsUnsentWithin count.most (connection_at old number) (connection_at new number) → TakesTurns number moment old new count count'
turn_took number moment work count count' answer old new steps below some range costs is refused left most unsent =
    let e : ServedRequest = taken_entry number moment old new steps in
    let own : answer ≡ answer_after old.cache e =
    is ∙ ap (λ (bytes : List ℕ). drop (length (output_of (connection_at old number))) bytes) (turn_output number moment old new steps)
    ∙ drop-append_seam (output_of (connection_at old number)) (answer_after old.cache e) in
    let units : work ≡ min (work_of e.what old.cache) (2 ^ 64 - 1) =
    costs ∙ ap (λ (n : ℕ). min n (2 ^ 64 - 1)) (work_of_taken (connection_at old number) steps.before e.what _ old.cache steps.was (steps.step.1.first.rest [])) in
    let all : count'.left ≡ count.left - (work_of e.what old.cache + length answer / WORK_BYTES) = spent (work_of e.what old.cache) work (length answer / WORK_BYTES) count.left count'.left range units left in
    let Q : List ℕ → Type 0 = λ bytes. count'.refused % 2 ^ 64 ≡ (count.refused + (refusal_in bytes + 0)) % 2 ^ 64 in
    let R : List ℕ → Type 0 = λ bytes. count'.left ≡ count.left - (work_of e.what old.cache + length bytes / WORK_BYTES) in
    record {
      stretch = stretch_took number moment old new steps below;
      counted = counts_one old.cache (stretch_took number moment old new steps below).history e count count' (took_takes_one number moment old new steps below)
          (subst Q own (sum_of_one (2 ^ 64) count.refused count'.refused (refusal_in answer) refused)) some (subst R own all) most;
      unsent = unsent;
    }

pub turns_took : (number moment work : ℕ) (count between count' : Counted) (answer : List ℕ) (a b c : ServerState) → TakesTurns number moment a b count between → Steps number b c (IsTurn number moment Took)
    → length (output_of (connection_at b number)) < UNSENT_MARK → 0 < between.left → between.left < 2 ^ 64
    → work ≡ min (work_of_first (waiting_of (connection_at b number)) b.cache) (2 ^ 64 - 1)
    → answer ≡ drop (length (output_of (connection_at b number))) (output_of (connection_at c number)) → count'.refused ≡ (between.refused + refusal_in answer) % 2 ^ 64
    → count'.left ≡ between.left - (work + length answer / WORK_BYTES) → count'.most ≡ between.most
    → IsUnsentWithin between.most (connection_at b number) (connection_at c number) → TakesTurns number moment a c count count'
turns_took number moment work count between count' answer a b c h steps below some range costs is refused left most unsent =
    turns_then number moment count between count' a b c h (turn_took number moment work between count' answer b c steps below some range costs is refused left most unsent)
