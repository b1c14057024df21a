-- Turns whose answers may be written at once.
use Rattle.std.proofs.Common.{◌≡◌, ◌∙◌, ℕ, ◌+◌, ◌-◌, ◌/◌, ◌%◌, ◌^◌, ◌<◌, ◌≤◌, min, Bool, List, [], ◌++◌, length, take, drop, codes, Option, Some, IsSome, refl, sym, ap, subst, arith, length-drop}
use Rattle.std.proofs.KnownBytes.{Appends-nil, Appends-trans}
use Rattle.std.proofs.lemmas.List.{append-nil, append_cancel_left, length-append}
use Rattle.std.specs.Io.KnownBytes.{Appends}
use Rattle.mc_request_reader.specs.Reader.{rest_of}
use Rattle.mc_cache.specs.CacheState.{CacheState}
use Rattle.mc_server.specs.Served.{IsServed, ServedRequest, answer_after}
use Rattle.mc_server.specs.ServerState.{ConnectionState, Connections, ServerState, connection_at, connection_in, output_of, updated, sent_by}
use Rattle.mc_server.specs.Turns.{IsTurn, Steps, waiting_of}
use Rattle.mc_server.specs.Gathers.{TakesOut}
use Rattle.mc_server.specs.declared.turns.Turn.TheVariants.{Took, Idle, Closing}
use Rattle.mc_server.proofs.ConnectionLemmas.{updated_own}
use Rattle.mc_stream.specs.declared.outcomes.Pumped.{Pumped}
use Rattle.mc_stream.proofs.SideLemmas.{carried_as, carries_sent}
use Rattle.mc_server.specs.Work.{work_of, work_of_first}
use Rattle.mc_pump.specs.Counts.{Counted, CountsWithin, refusal_in}
use Rattle.mc_pump.specs.Gathers.{GathersTurns}
use Rattle.mc_pump.specs.Pumps.{Leaves}
use Rattle.mc_pump.specs.Rounds.{PumpsPart, TakesTurns}
use Rattle.mc_pump.specs.declared.limits.TheConstants.{UNSENT_MARK}
use Rattle.mc_server.specs.declared.limits.TheConstants.{WORK_BYTES}
use Rattle.mc_pump.proofs.StretchLemmas.{sent_takes_none, stretch_sent, stretch_then, stretch_took, taken_entry, took_takes_one, updated-twice}
use Rattle.mc_pump.proofs.RoundLemmas.{is_open}
use Rattle.mc_pump.proofs.UnsentLemmas.{unsent_then}
use Rattle.mc_pump.specs.Unsent.{IsUnsentWithin}
use Rattle.mc_pump.proofs.CountLemmas.{counts_one, counts_still, counts_then, spent, turns_closing, turns_idle, turns_none, turns_took, work_of_taken}

-- a step that is another one too
pub stepped : (P Q : CacheState → CacheState → ConnectionState → ConnectionState → Type 0) (number : ℕ) (old new : ServerState) (steps : Steps number old new P)
    → Q old.cache new.cache steps.before steps.after → Steps number old new Q
stepped P Q number old new steps step = record {
  before = steps.before;
  after = steps.after;
  was = steps.was;
  is = steps.is;
  admitted = steps.admitted;
  step = step;
}

-- no turn was taken yet
pub gathers_none : (number moment : ℕ) (count : Counted) (s : ServerState) (written : Option (List ℕ)) → IsSome (connection_at s number) → GathersTurns number moment s s written written count count
gathers_none number moment count s written there =
    let turns = turns_none number moment count s there in
    record { went = []; stretch = turns.stretch; appended = Appends-nil written; counted = turns.counted; unsent = turns.unsent }

-- turns of which nothing was written
gathers_turns : (number moment : ℕ) (count count' : Counted) (a b : ServerState) (written written' : Option (List ℕ)) → TakesTurns number moment a b count count' → Appends written written' []
    → GathersTurns number moment a b written written' count count'
gathers_turns number moment count count' a b written written' turns nothing =
    record { went = []; stretch = turns.stretch; appended = nothing; counted = turns.counted; unsent = turns.unsent }

-- turns after turns
gathers_then : (number moment : ℕ) (count between count' : Counted) (a b c : ServerState) (written sent written' : Option (List ℕ)) → GathersTurns number moment a b written sent count between
    → GathersTurns number moment b c sent written' between count' → GathersTurns number moment a c written written' count count'
gathers_then number moment count between count' a b c written sent written' h k = record {
  went = h.went ++ k.went;
  stretch = stretch_then number moment a b c [] [] h.went k.went h.stretch k.stretch;
  appended = Appends-trans written sent written' h.went k.went h.appended k.appended;
  counted = counts_then number moment count between count' a b c [] [] h.went k.went h.stretch k.stretch h.counted k.counted;
  unsent = unsent_then count.most between.most (connection_at a number) (connection_at b number) (connection_at c number) h.counted.most h.unsent k.unsent;
}

-- nothing more was taken or written
pub gathers_still : (number moment : ℕ) (count between : Counted) (a b : ServerState) (written sent written' : Option (List ℕ)) → GathersTurns number moment a b written sent count between → Appends sent written' []
    → GathersTurns number moment a b written written' count between
gathers_still number moment count between a b written sent written' h nothing = record {
  went = h.went;
  stretch = h.stretch;
  appended = subst (λ (bytes : List ℕ). Appends written written' bytes) (append-nil h.went) (Appends-trans written sent written' h.went [] h.appended nothing);
  counted = h.counted;
  unsent = h.unsent;
}

-- a turn found nothing, or that nothing is read any more
pub gathers_idle : (number moment : ℕ) (count between : Counted) (a b c : ServerState) (written sent written' : Option (List ℕ)) → GathersTurns number moment a b written sent count between
    → Steps number b c (IsTurn number moment Idle) → Appends sent written' [] → GathersTurns number moment a c written written' count between
gathers_idle number moment count between a b c written sent written' h steps nothing =
    let none = turns_none number moment between b (is_open (connection_at b number) steps.before steps.was) in
    gathers_then number moment count between between a b c written sent written' h
    (gathers_turns number moment between between b c sent written' (turns_idle number moment between between b b c none steps) nothing)

pub gathers_closing : (number moment : ℕ) (count between : Counted) (a b c : ServerState) (written sent written' : Option (List ℕ)) → GathersTurns number moment a b written sent count between
    → Steps number b c (IsTurn number moment Closing) → Appends sent written' [] → GathersTurns number moment a c written written' count between
gathers_closing number moment count between a b c written sent written' h steps nothing =
    let none = turns_none number moment between b (is_open (connection_at b number) steps.before steps.was) in
    gathers_then number moment count between between a b c written sent written' h
    (gathers_turns number moment between between b c sent written' (turns_closing number moment between between b b c none steps) nothing)

-- a turn took something, of whose answer nothing was written
pub plain_took : (number moment went : ℕ) (old new : ServerState) (written written' : Option (List ℕ)) → Steps number old new (TakesOut number moment went written written') → went ≡ 0
    → Steps number old new (IsTurn number moment Took)
plain_took number moment went old new written written' steps none =
    let put = steps.step.put in
    let stays : put.whole ≡ steps.after.output = sym (put.left ∙ ap (λ (n : ℕ). drop n put.whole) none) in
    let P : List ℕ → Type 0 = λ bytes. IsServed number old.cache steps.step.what moment new.cache steps.before.output bytes in
    record {
      before = steps.before;
      after = steps.after;
      was = steps.was;
      is = steps.is;
      admitted = steps.admitted;
      step = (steps.step.what, record { first = steps.step.first; closed = steps.step.closed; served = subst P stays put.served });
    }

pub plain_wrote : (number moment went : ℕ) (old new : ServerState) (written written' : Option (List ℕ)) → Steps number old new (TakesOut number moment went written written') → went ≡ 0
    → Appends written written' []
plain_wrote number moment went old new written written' steps none =
    subst (λ (n : ℕ). Appends written written' (take n steps.step.put.whole)) none steps.step.put.wrote.1

pub gathers_took : (number moment work : ℕ) (count between count' : Counted) (answer : List ℕ) (a b c : ServerState) (written sent written' : Option (List ℕ))
    → GathersTurns number moment a b written sent count between → Steps number b c (IsTurn number moment Took) → Appends sent written' []
    → length (output_of (connection_at b number)) < UNSENT_MARK → 0 < between.left → between.left < 2 ^ 64
    → work ≡ min (work_of_first (waiting_of (connection_at b number)) b.cache) (2 ^ 64 - 1)
    → answer ≡ drop (length (output_of (connection_at b number))) (output_of (connection_at c number)) → count'.refused ≡ (between.refused + refusal_in answer) % 2 ^ 64
    → count'.left ≡ between.left - (work + length answer / WORK_BYTES) → count'.most ≡ between.most
    → IsUnsentWithin between.most (connection_at b number) (connection_at c number) → GathersTurns number moment a c written written' count count'
gathers_took number moment work count between count' answer a b c written sent written' h steps nothing below some range costs is refused left most unsent =
    let none = turns_none number moment between b (is_open (connection_at b number) steps.before steps.was) in
    gathers_then number moment count between count' a b c written sent written' h
    (gathers_turns number moment between count' b c sent written' (turns_took number moment work between between count' answer b b c none steps below some range costs is refused left most unsent) nothing)

-- the connection and the server once a turn was taken, before any of its answer was written
abbrev whole_of : (number moment went : ℕ) (old new : ServerState) (written written' : Option (List ℕ)) → Steps number old new (TakesOut number moment went written written') → ConnectionState
whole_of number moment went old new written written' steps = record steps.after { output = steps.step.put.whole }

abbrev middle_of : (number moment went : ℕ) (old new : ServerState) (written written' : Option (List ℕ)) → Steps number old new (TakesOut number moment went written written') → ServerState
middle_of number moment went old new written written' steps =
    record new { connections = updated number (whole_of number moment went old new written written' steps) old.connections }

-- first it was taken
first_took : (number moment went : ℕ) (old new : ServerState) (written written' : Option (List ℕ)) (steps : Steps number old new (TakesOut number moment went written written'))
    → Steps number old (middle_of number moment went old new written written' steps) (IsTurn number moment Took)
first_took number moment went old new written written' steps = record {
  before = steps.before;
  after = whole_of number moment went old new written written' steps;
  was = steps.was;
  is = refl;
  admitted = steps.admitted;
  step = (steps.step.what, record { first = steps.step.first; closed = steps.step.closed; served = steps.step.put.served });
}

middle_open : (number moment went : ℕ) (old new : ServerState) (written written' : Option (List ℕ)) (steps : Steps number old new (TakesOut number moment went written written'))
    → connection_at (middle_of number moment went old new written written' steps) number ≡ Some (whole_of number moment went old new written written' steps)
middle_open number moment went old new written written' steps =
    updated_own number steps.before (whole_of number moment went old new written written' steps) old.connections steps.was

-- then its first bytes were sent
then_sent : (number moment went : ℕ) (old new : ServerState) (written written' : Option (List ℕ)) (steps : Steps number old new (TakesOut number moment went written written'))
    → new ≡ sent_by number went (connection_at (middle_of number moment went old new written written' steps) number) (middle_of number moment went old new written written' steps)
then_sent number moment went old new written written' steps =
    let whole = whole_of number moment went old new written written' steps in
    let middle = middle_of number moment went old new written written' steps in
    let left : ConnectionState = record whole { output = drop went whole.output } in
    let same : steps.after ≡ left = ap (λ (bytes : List ℕ). record steps.after { output = bytes }) steps.step.put.left in
    let all : new.connections ≡ updated number left middle.connections =
    steps.is ∙ ap (λ (c : ConnectionState). updated number c old.connections) same ∙ sym (updated-twice number whole left old.connections) in
    ap (λ (cs : Connections). record new { connections = cs }) all
    ∙ sym (ap (λ (o : Option ConnectionState). sent_by number went o middle) (middle_open number moment went old new written written' steps))

-- an answer that shows an item is not the line for want of memory
shown_is_none : (rest : List ℕ) → refusal_in (codes "VALUE " ++ rest) ≡ 0
shown_is_none rest = refl

no_refusal : (before answer rest : List ℕ) → before ++ answer ≡ before ++ (codes "VALUE " ++ rest) → refusal_in answer ≡ 0
no_refusal before answer rest same = ap refusal_in (append_cancel_left before answer (codes "VALUE " ++ rest) same) ∙ shown_is_none rest

count_stays : (m a n : ℕ) → n ≡ 0 → a % m ≡ (a + (n + 0)) % m
count_stays m a n none = let same : a ≡ a + (n + 0) = omega (arith, none) in ap (λ (k : ℕ). k % m) same

-- how long an answer is of which some was written: before it some bytes were unsent, and others are now
shown_length : (before answer whole after : List ℕ) (went unsent kept : ℕ) → whole ≡ before ++ answer → after ≡ drop went whole → 0 < went → went ≤ length whole → unsent ≡ length before → kept ≡ length after
    → went + kept - unsent ≡ length answer
shown_length before answer whole after went unsent kept put left some fits is now =
    let all : length whole ≡ length (before ++ answer) = ap (λ (bytes : List ℕ). length bytes) put in
    let rest : length after ≡ length (drop went whole) = ap (λ (bytes : List ℕ). length bytes) left in
    omega (arith, all, rest, length-append before answer, length-drop went whole, fits, is, now)

-- a turn took something, of whose answer the writer took some
gathers_out : (number moment went work unsent kept : ℕ) (count count' : Counted) (old new : ServerState) (written written' : Option (List ℕ)) → Steps number old new (TakesOut number moment went written written') → 0 < went
    → length (output_of (connection_at old number)) < UNSENT_MARK → unsent ≡ length (output_of (connection_at old number)) → kept ≡ length (output_of (connection_at new number))
    → 0 < count.left → count.left < 2 ^ 64 → work ≡ min (work_of_first (waiting_of (connection_at old number)) old.cache) (2 ^ 64 - 1)
    → count'.refused ≡ count.refused → count'.left ≡ count.left - (work + (went + kept - unsent) / WORK_BYTES) → count'.most ≡ count.most
    → IsUnsentWithin count.most (connection_at old number) (connection_at new number) → GathersTurns number moment old new written written' count count'
unfolding first_took
gathers_out number moment went work unsent kept count count' old new written written' steps some below was_unsent is_kept any range costs refused left most bounded =
    let put = steps.step.put in
    let whole = whole_of number moment went old new written written' steps in
    let middle = middle_of number moment went old new written written' steps in
    let first = first_took number moment went old new written written' steps in
    let open_yet = middle_open number moment went old new written written' steps in
    let sent = then_sent number moment went old new written written' steps in
    let took = stretch_took number moment old middle first below in
    let shown = put.shown some in
    let e : ServedRequest = taken_entry number moment old middle first in
    let none : refusal_in (answer_after old.cache e) ≡ 0 =
    no_refusal steps.before.output (answer_after old.cache e) shown.0 (sym put.served.1.answered ∙ shown.1) in
    let now : connection_at new number ≡ Some steps.after = ap (λ (cs : Connections). connection_in cs number) steps.is ∙ updated_own number steps.before steps.after old.connections steps.was in
    let before_len : unsent ≡ length steps.before.output = was_unsent ∙ ap (λ (o : Option ConnectionState). length (output_of o)) steps.was in
    let after_len : kept ≡ length steps.after.output = is_kept ∙ ap (λ (o : Option ConnectionState). length (output_of o)) now in
    let long : went + kept - unsent ≡ length (answer_after old.cache e) =
    shown_length steps.before.output (answer_after old.cache e) put.whole steps.after.output went unsent kept put.served.1.answered put.left some put.wrote.0 before_len after_len in
    let units : work ≡ min (work_of e.what old.cache) (2 ^ 64 - 1) =
    costs ∙ ap (λ (n : ℕ). min n (2 ^ 64 - 1)) (work_of_taken (connection_at old number) steps.before e.what _ old.cache steps.was (steps.step.first.rest [])) in
    let all : count'.left ≡ count.left - (work_of e.what old.cache + (went + kept - unsent) / WORK_BYTES) =
    spent (work_of e.what old.cache) work ((went + kept - unsent) / WORK_BYTES) count.left count'.left range units left in
    let R : ℕ → Type 0 = λ n. count'.left ≡ count.left - (work_of e.what old.cache + n / WORK_BYTES) in
    let counted : CountsWithin old.cache took.history count count' =
    counts_one old.cache took.history e count count' (took_takes_one number moment old middle first below)
    (ap (λ (n : ℕ). n % 2 ^ 64) refused ∙ count_stays (2 ^ 64) count.refused (refusal_in (answer_after old.cache e)) none) any (subst R long all) most in
    record {
      went = take went put.whole;
      stretch = stretch_then number moment old middle new [] [] [] (take went put.whole) took (stretch_sent number moment went whole middle new open_yet sent);
      appended = put.wrote.1;
      counted = counts_then number moment count count' count' old middle new [] [] [] (take went put.whole) took (stretch_sent number moment went whole middle new open_yet sent)
          counted (counts_still middle.cache _ count' count' (sent_takes_none number moment went whole middle new open_yet sent) refl);
      unsent = bounded;
    }

pub gathers_showed : (number moment went work unsent kept : ℕ) (count between count' : Counted) (a b c : ServerState) (written sent written' : Option (List ℕ)) → GathersTurns number moment a b written sent count between
    → Steps number b c (TakesOut number moment went sent written') → 0 < went → length (output_of (connection_at b number)) < UNSENT_MARK
    → unsent ≡ length (output_of (connection_at b number)) → kept ≡ length (output_of (connection_at c number))
    → 0 < between.left → between.left < 2 ^ 64 → work ≡ min (work_of_first (waiting_of (connection_at b number)) b.cache) (2 ^ 64 - 1)
    → count'.refused ≡ between.refused → count'.left ≡ between.left - (work + (went + kept - unsent) / WORK_BYTES) → count'.most ≡ between.most
    → IsUnsentWithin between.most (connection_at b number) (connection_at c number) → GathersTurns number moment a c written written' count count'
gathers_showed number moment went work unsent kept count between count' a b c written sent written' h steps some below was_unsent is_kept any range costs refused left most bounded =
    gathers_then number moment count between count' a b c written sent written' h
    (gathers_out number moment went work unsent kept between count' b c sent written' steps some below was_unsent is_kept any range costs refused left most bounded)

-- a turn that took something leaves one less to take
pub gathered_one : (number moment went : ℕ) (old new : ServerState) (written written' : Option (List ℕ)) → Steps number old new (TakesOut number moment went written written')
    → length (waiting_of (connection_at new number)) < length (waiting_of (connection_at old number))
gathered_one number moment went old new written written' steps =
    let now : connection_at new number ≡ Some steps.after = ap (λ (cs : Connections). connection_in cs number) steps.is ∙ updated_own number steps.before steps.after old.connections steps.was in
    let fewer : length (rest_of steps.after.reader []) < length (rest_of steps.before.reader []) = rw (steps.step.first.rest []) (omega arith) in
    let P : Option ConnectionState → Type 0 = λ o. length (waiting_of o) < length (waiting_of (connection_at old number)) in
    let Q : Option ConnectionState → Type 0 = λ o. length (rest_of steps.after.reader []) < length (waiting_of o) in
    subst P (sym now) (subst Q (sym steps.was) fewer)

-- turns alone
pub pumps_gathered : (number moment : ℕ) (count count' : Counted) (pump : Pumped) (a b : ServerState) (unread written written' : Option (List ℕ)) (ended : Bool)
    → GathersTurns number moment a b written written' count count' → Leaves pump ended (connection_at b number) → PumpsPart number moment pump a b unread unread written written' ended ended count count'
pumps_gathered number moment count count' pump a b unread written written' ended h left = record {
  came = [];
  went = h.went;
  stretch = h.stretch;
  carried = carried_as pump unread unread written written' ended ended [] h.went (carries_sent unread written written' ended h.went h.appended);
  left = left;
  counted = h.counted;
  unsent = h.unsent;
}

-- turns of which a writer that keeps nothing took nothing
pub pumps_ungathered : (number moment : ℕ) (count count' : Counted) (pump : Pumped) (a b : ServerState) (unread written : Option (List ℕ)) (ended : Bool)
    → GathersTurns number moment a b (Some []) (Some []) count count' → Leaves pump ended (connection_at b number) → PumpsPart number moment pump a b unread unread written written ended ended count count'
pumps_ungathered number moment count count' pump a b unread written ended h left =
    let nothing : [] ≡ h.went = h.appended in
    let none : Appends written written h.went = subst (λ (bytes : List ℕ). Appends written written bytes) nothing (Appends-nil written) in
    record {
      came = [];
      went = h.went;
      stretch = h.stretch;
      carried = carried_as pump unread unread written written ended ended [] h.went (carries_sent unread written written ended h.went none);
      left = left;
      counted = h.counted;
      unsent = h.unsent;
    }
