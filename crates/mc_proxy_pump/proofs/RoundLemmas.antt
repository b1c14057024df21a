-- The parts of a round of a session's pump.
use Rattle.std.proofs.Common.{◌≡◌, ◌∙◌, ◌⊎◌, ◌↔◌, ◌+◌, ◌-◌, ◌≤◌, ◌<◌, inl, inr, ℕ, suc, ◌==◌, ◌&&◌, Bool, true, false, nat_le, if◌then◌else◌, Result, Ok, List, [], ◌∷◌, ◌++◌, length, take, drop, Option, Some, None, IsSome, refl, sym, ap, subst, arith, length-drop}
use Rattle.std.specs.Prelude.{IsTrue}
use Rattle.std.proofs.lemmas.Bool.Decides.{nat_tests}
use Rattle.std.proofs.lemmas.List.{length_push}
use Rattle.std.specs.Io.KnownBytes.{Appends}
use Rattle.mc_request.specs.declared.parts.Parsed.{Parsed}
use Rattle.mc_request_reader.specs.Reader.{ReaderState, rest_of}
use Rattle.mc_ring.specs.Rings.{RingState}
use Rattle.mc_route.specs.declared.losses.Losses.{Losses}
use Rattle.mc_link.specs.LinkState.{LinkState}
use Rattle.mc_proxy.specs.Emits.{IsEmit, emitted, emitted_from, is_known, answer_of_one}
use Rattle.mc_proxy.specs.FirstAndLast.{commands_of, is_foreign_at}
use Rattle.mc_proxy.specs.SessionState.{SessionState, Unanswered}
use Rattle.mc_proxy.specs.SessionTurns.{IsFed, IsHeldUp, IsTurn, Takes}
use Rattle.mc_proxy.specs.declared.session_limits.TheConstants.{UNSENT_MARK}
use Rattle.mc_proxy.specs.declared.session_turns.Emit.TheVariants as emits
use Rattle.mc_proxy.specs.declared.session_turns.SessionTurn.{SessionTurn}
use Rattle.mc_proxy.specs.declared.session_turns.SessionTurn.TheVariants as turns
use Rattle.mc_proxy.specs.ProxyState.{ProxyState, output_of, sent_by, session_at, unanswered_of}
use Rattle.mc_proxy.specs.Turns.{Alone, HasAnswer, Steps, hides_loss_at, waiting_of}
use Rattle.mc_proxy.proofs.StepLemmas.{sent_at, steps_at, steps_still}
use Rattle.mc_stream.specs.Sides.{HowItCame, HowItWent}
use Rattle.mc_stream.specs.declared.outcomes.Pumped.{Pumped}
use Rattle.mc_proxy_pump.specs.Calls.{Fed, Turned, Emitted, Rested, Sent, SessionStretch}
use Rattle.mc_proxy_pump.specs.Clients.{EndsEarly, IsHeldUpAt, IsOver, IsStuck, emitted_at, is_closed_at}
use Rattle.mc_proxy_pump.specs.Tallies.{Counts, counted}
use Rattle.mc_proxy_pump.specs.Work.{emit_work, request_work, turn_work}
use Rattle.mc_proxy_pump.specs.Rounds.{HasAnswered, HowMany, IsSentOf, Receives, Sends, StopsAt, ends_by, reads_by, work_of}
use Rattle.mc_proxy_pump.proofs.StretchLemmas.{is_open, spends_none, stretch_none, stretch_one, the_open}

-- a turn is a call, and costs nothing if it takes nothing
pub stretch_turned : (number : ℕ) (turn : SessionTurn) (old new : ProxyState) (counts : Counts)
    → Steps number old new (IsTurn number turn old.ring old.losses) → is_foreign_at (session_at old number) ≡ false → turn_work turn (session_at new number) ≡ 0
    → SessionStretch number old new [] [] counts counts
stretch_turned number turn old new counts steps own free =
    stretch_one number (Turned turn (turn_work turn (session_at new number))) old new counts counts (steps, own, refl)
    (is_open (session_at new number) steps.after (steps_at number old new (IsTurn number turn old.ring old.losses) steps))
    refl (spends_none (Turned turn (turn_work turn (session_at new number))) counts.1 free)

-- a request is taken while work is left
pub stretch_took : (number : ℕ) (old new : ProxyState) (missed missed' : Option ℕ) (left left' : ℕ)
    → Steps number old new (IsTurn number turns.Took old.ring old.losses) → is_foreign_at (session_at old number) ≡ false
    → missed' ≡ missed → 0 < left → left' ≡ left - request_work (commands_of (session_at new number))
    → SessionStretch number old new [] [] (missed, left) (missed', left')
stretch_took number old new missed missed' left left' steps own same some spent =
    stretch_one number (Turned turns.Took (turn_work turns.Took (session_at new number))) old new (missed, left) (missed', left') (steps, own, refl)
    (is_open (session_at new number) steps.after (steps_at number old new (IsTurn number turns.Took old.ring old.losses) steps))
    (sym same) (λ costs. some, spent)

-- a request that is taken is one fewer to take, and one more to answer
took_less : (number : ℕ) (ring : RingState) (losses : Losses) (links now : List LinkState) (before after : SessionState) (what : Parsed)
    → Takes number ring losses links now before after what → work_of (Some after) < work_of (Some before)
took_less number ring losses links now before after what takes =
    let fewer : length (rest_of before.reader []) ≡ suc (length (rest_of after.reader [])) = ap (λ (ts : List Parsed). length ts) (takes.first.rest []) in
    let more : length after.unanswered ≡ length before.unanswered + 1 =
    ap (λ (us : List Unanswered). length us) takes.unanswered ∙ length_push before.unanswered _ in
    omega (arith, fewer, more)

pub took_one : (number : ℕ) (old new : ProxyState) → Steps number old new (IsTurn number turns.Took old.ring old.losses) → work_of (session_at new number) < work_of (session_at old number)
took_one number old new steps =
    let less = took_less number old.ring old.losses old.links new.links steps.before steps.after steps.step.0 steps.step.1 in
    let P : Option SessionState → Type 0 = λ o. work_of o < work_of (session_at old number) in
    let Q : Option SessionState → Type 0 = λ o. work_of (Some steps.after) < work_of o in
    subst P (sym (steps_at number old new (IsTurn number turns.Took old.ring old.losses) steps)) (subst Q (sym steps.was) less)

-- a turn that takes nothing changes nothing, and says why
turn_stops : (number : ℕ) (turn : SessionTurn) (old new : ProxyState) (stop : (s : SessionState) → session_at old number ≡ Some s → StopsAt turn old (Some s))
    → new ≡ old → IsSome (session_at old number) → (StopsAt turn new (session_at new number)) × (work_of (session_at new number) ≤ work_of (session_at old number))
turn_stops number turn old new stop same there =
    let own = the_open (session_at old number) there in
    let P : Option SessionState → Type 0 = λ o. StopsAt turn old o in
    let Q : ProxyState → Type 0 = λ p. (StopsAt turn p (session_at p number)) × (work_of (session_at p number) ≤ work_of (session_at old number)) in
    subst Q (sym same) (subst P (sym own.1) (stop own.0 own.1), omega arith)

pub idle_stops : (number : ℕ) (old new : ProxyState) → Steps number old new (IsTurn number turns.Idle old.ring old.losses)
    → (StopsAt turns.Idle new (session_at new number)) × (work_of (session_at new number) ≤ work_of (session_at old number))
idle_stops number old new steps =
    turn_stops number turns.Idle old new
    (λ s was. let both : Some steps.before ≡ Some s = sym steps.was ∙ was in let same : steps.before ≡ s = cc in
    subst (λ (x : SessionState). StopsAt turns.Idle old (Some x)) same (steps.step.0.none, steps.step.0.is_open))
    (steps_still number old new (IsTurn number turns.Idle old.ring old.losses) steps steps.step.1.1 steps.step.1.0)
    (is_open (session_at old number) steps.before steps.was)

pub waiting_stops : (number : ℕ) (old new : ProxyState) → Steps number old new (IsTurn number turns.Waiting old.ring old.losses)
    → (StopsAt turns.Waiting new (session_at new number)) × (work_of (session_at new number) ≤ work_of (session_at old number))
waiting_stops number old new steps =
    turn_stops number turns.Waiting old new
    (λ s was. let both : Some steps.before ≡ Some s = sym steps.was ∙ was in let same : steps.before ≡ s = cc in
    subst (λ (x : SessionState). IsHeldUp old.ring old.links x) same steps.step.0)
    (steps_still number old new (IsTurn number turns.Waiting old.ring old.losses) steps steps.step.1.1 steps.step.1.0)
    (is_open (session_at old number) steps.before steps.was)

closed_has_none : (r : ReaderState) → r.closed ≡ true → rest_of r [] ≡ []
closed_has_none r closed = rw closed refl

pub closing_stops : (number : ℕ) (old new : ProxyState) → Steps number old new (IsTurn number turns.Closing old.ring old.losses)
    → (StopsAt turns.Closing new (session_at new number)) × (work_of (session_at new number) ≤ work_of (session_at old number))
closing_stops number old new steps =
    turn_stops number turns.Closing old new
    (λ s was. let both : Some steps.before ≡ Some s = sym steps.was ∙ was in let same : steps.before ≡ s = cc in
    let closed : s.reader.closed ≡ true = ap (λ (x : SessionState). x.reader.closed) (sym same) ∙ steps.step.0 in
    (closed_has_none s.reader closed, closed))
    (steps_still number old new (IsTurn number turns.Closing old.ring old.losses) steps steps.step.1.1 steps.step.1.0)
    (is_open (session_at old number) steps.before steps.was)

-- the look at a known answer counts it as what it is
counted_alike : (Known : Type 0) (looked hides : Bool) (missed : Option ℕ) → Known → (IsTrue looked ↔ (IsSome missed × Known × (hides ≡ true)))
    → counted looked missed ≡ counted hides missed
counted_alike Known true true missed known looks = refl
counted_alike Known true false missed known looks = let clash : false ≡ true = (looks.0 refl).2 in absurd cc
counted_alike Known false true None known looks = refl
counted_alike Known false true (Some n) known looks = let clash : false ≡ true = looks.1 (refl, known, refl) in absurd cc
counted_alike Known false false missed known looks = refl

-- an answer that is emitted was known
had_answer : (number : ℕ) (old new : ProxyState) → Steps number old new (Alone (IsEmit emits.Done)) → HasAnswer number old
had_answer number old new steps = (steps.before, steps.was, λ none. let clash : Some steps.after ≡ None = sym steps.step.1 ∙ none in absurd cc)

-- emitting an answer is a call, and the answer is counted if it hides a loss; it is emitted while work is left
pub stretch_emitted : (number : ℕ) (old new : ProxyState) (looked : Bool) (missed missed' : Option ℕ) (left left' : ℕ) → Steps number old new (Alone (IsEmit emits.Done))
    → length (output_of (session_at old number)) < UNSENT_MARK
    → (IsTrue looked ↔ (IsSome missed × HasAnswer number old × (hides_loss_at (session_at old number) ≡ true)))
    → missed' ≡ counted looked missed → 0 < left → left' ≡ left - emit_work (session_at old number) (session_at new number)
    → SessionStretch number old new [] [] (missed, left) (missed', left')
stretch_emitted number old new looked missed missed' left left' steps below looks is some spent =
    let same : counted (hides_loss_at (session_at old number)) missed ≡ missed' =
    sym (is ∙ counted_alike (HasAnswer number old) looked (hides_loss_at (session_at old number)) missed (had_answer number old new steps) looks) in
    stretch_one number (Emitted (hides_loss_at (session_at old number)) (emit_work (session_at old number) (session_at new number))) old new (missed, left) (missed', left') (steps, below, refl, refl)
    (is_open (session_at new number) steps.after (steps_at number old new (Alone (IsEmit emits.Done)) steps))
    same (λ costs. some, spent)

-- finding no known answer is a call too
pub stretch_rested : (number : ℕ) (old new : ProxyState) (counts : Counts) → Steps number old new (Alone (IsEmit emits.Idle)) → length (output_of (session_at old number)) < UNSENT_MARK
    → SessionStretch number old new [] [] counts counts
stretch_rested number old new counts steps below =
    stretch_one number Rested old new counts counts (steps, below) (is_open (session_at new number) steps.after (steps_at number old new (Alone (IsEmit emits.Idle)) steps))
    refl (spends_none Rested counts.1 refl)

-- an answer that is emitted is one fewer to answer
emit_parts : (session : SessionState) (us : List Unanswered) (after : SessionState) → emitted_from session us ≡ Some after
    → (suc (length after.unanswered) ≡ length us) × (after.reader ≡ session.reader)
emit_parts session [] after e = absurd cc
emit_parts session (u ∷ us) after e =
    (elim (is_known u) as (λ v. (if v then Some (record session { output = session.output ++ answer_of_one u; unanswered = us }) else None) ≡ Some after
    → (suc (length after.unanswered) ≡ length (u ∷ us)) × (after.reader ≡ session.reader)) [
      | true ↦ λ is.
          let same : record session { output = session.output ++ answer_of_one u; unanswered = us } ≡ after = cc in
          (ap (λ (s : SessionState). suc (length s.unanswered)) (sym same), ap (λ (s : SessionState). s.reader) (sym same))
      | false ↦ λ is. absurd cc
    ]) e

emit_less : (before after : SessionState) → emitted before ≡ Some after → (work_of (Some after) < work_of (Some before)) × (length after.unanswered < length before.unanswered)
emit_less before after is =
    let parts = emit_parts before before.unanswered after is in
    let rest : length (rest_of after.reader []) ≡ length (rest_of before.reader []) = ap (λ (r : ReaderState). length (rest_of r [])) parts.1 in
    (omega (arith, parts.0, rest), omega (arith, parts.0))

pub put_one : (number : ℕ) (old new : ProxyState) → Steps number old new (Alone (IsEmit emits.Done))
    → (work_of (session_at new number) < work_of (session_at old number)) × (unanswered_of (session_at new number) < unanswered_of (session_at old number))
put_one number old new steps =
    let less = emit_less steps.before steps.after steps.step.1 in
    let P : Option SessionState → Type 0 = λ o. (work_of o < work_of (session_at old number)) × (unanswered_of o < unanswered_of (session_at old number)) in
    let Q : Option SessionState → Type 0 = λ o. (work_of (Some steps.after) < work_of o) × (unanswered_of (Some steps.after) < unanswered_of o) in
    subst P (sym (steps_at number old new (Alone (IsEmit emits.Done)) steps)) (subst Q (sym steps.was) less)

-- if none is emitted nothing changes, and none is known
pub put_none : (number : ℕ) (old new : ProxyState) → Steps number old new (Alone (IsEmit emits.Idle)) → (new ≡ old) × (emitted_at (session_at new number) ≡ None)
put_none number old new steps =
    let P : Option SessionState → Type 0 = λ o. emitted_at o ≡ None in
    let none : emitted steps.after ≡ None = ap (λ (s : SessionState). emitted s) steps.step.1.1 ∙ steps.step.1.0 in (
      steps_still number old new (Alone (IsEmit emits.Idle)) steps steps.step.1.1 steps.step.0,
      subst P (sym (steps_at number old new (Alone (IsEmit emits.Idle)) steps)) none,
    )

-- nothing was sent
pub sends_still : (number : ℕ) (side : Result Bool Pumped) (s : ProxyState) (written written' : Option (List ℕ)) (counts : Counts) → IsSome (session_at s number)
    → HowItWent side written written' [] (s ≡ s) → Sends number side s s written written' counts counts
sends_still number side s written written' counts there how = record {
  went = [];
  stretch = stretch_none number s counts there;
  uncounted = refl;
  how = how;
  same = record { waits = refl; closed = refl; foreign = refl; known = λ none. none; fewer = omega arith };
}

emitted_sent : (s : SessionState) (output : List ℕ) (us : List Unanswered) → emitted_from s us ≡ None → emitted_from (record s { output = output }) us ≡ None
emitted_sent s output [] e = refl
emitted_sent s output (u ∷ us) e =
    (elim (is_known u) as (λ v. (if v then Some (record s { output = s.output ++ answer_of_one u; unanswered = us }) else None) ≡ None
    → (if v then Some (record s { output = output ++ answer_of_one u; unanswered = us }) else None) ≡ None) [
      | true ↦ λ is. absurd cc
      | false ↦ λ is. refl
    ]) e

-- the first bytes were sent
pub sends_some : (number count : ℕ) (output : List ℕ) (old new : ProxyState) (written written' : Option (List ℕ)) (counts : Counts) → IsSome (session_at old number)
    → output ≡ output_of (session_at old number) → count ≤ length output → new ≡ sent_by number count (session_at old number) old → Appends written written' (take count output)
    → Sends number (Ok true) old new written written' counts counts
sends_some number count output old new written written' counts there unsent few is appended =
    let s = the_open (session_at old number) there in
    let after : SessionState = record s.0 { output = drop count s.0.output } in
    let now : session_at new number ≡ Some after = sent_at number count s.0 old new s.1 is in
    let fewer : length (drop count s.0.output) ≤ length s.0.output = omega (arith, length-drop count s.0.output) in
    let bound : count ≤ length (output_of (session_at old number)) = subst (λ (bytes : List ℕ). count ≤ length bytes) unsent few in
    let P : Option SessionState → Type 0 = λ o. IsSentOf (Some s.0) o in
    let Q : Option SessionState → Type 0 = λ o. IsSentOf o (session_at new number) in
    record {
      went = take count (output_of (session_at old number));
      stretch = stretch_one number (Sent count (take count (output_of (session_at old number)))) old new counts counts (bound, refl, is) (is_open (session_at new number) after now)
          refl (spends_none (Sent count (take count (output_of (session_at old number)))) counts.1 refl);
      uncounted = refl;
      how = subst (λ (bytes : List ℕ). Appends written written' (take count bytes)) unsent appended;
      same = subst Q (sym s.1) (subst P (sym now) (record {
        waits = refl;
        closed = refl;
        foreign = refl;
        known = λ none. emitted_sent s.0 (drop count s.0.output) s.0.unanswered none;
        fewer = fewer;
      }));
    }

-- no byte arrived
pub receives_still : (number : ℕ) (side : Result Bool Pumped) (s : ProxyState) (unread unread' : Option (List ℕ)) (ended' : Bool) (counts : Counts) → IsSome (session_at s number)
    → HowItCame side unread unread' ended' [] (s ≡ s) → Receives number side s s unread unread' ended' counts counts
receives_still number side s unread unread' ended' counts there how = record { came = []; stretch = stretch_none number s counts there; uncounted = refl; how = how }

-- a piece arrived
pub stretch_fed : (number : ℕ) (piece : List ℕ) (old new : ProxyState) (counts : Counts) → Steps number old new (Alone (IsFed piece)) → waiting_of (session_at old number) ≡ []
    → length (output_of (session_at old number)) < UNSENT_MARK → SessionStretch number old new piece [] counts counts
stretch_fed number piece old new counts steps none below =
    stretch_one number (Fed piece) old new counts counts (steps, none, below) (is_open (session_at new number) steps.after (steps_at number old new (Alone (IsFed piece)) steps))
    refl (spends_none (Fed piece) counts.1 refl)

-- both of two tests hold
both : (a b answer : Bool) → answer ≡ (a && b) → answer ≡ true → (a ≡ true) × (b ≡ true)
both true true answer is e = (refl, refl)
both true false answer is e = let clash : true ≡ false = sym e ∙ is in absurd cc
both false b answer is e = let clash : true ≡ false = sym e ∙ is in absurd cc

no_bytes : (bytes : List ℕ) → length bytes ≡ 0 → bytes ≡ []
no_bytes [] e = refl
no_bytes (b ∷ bs) e = absurd (omega (arith, e))

no_more : (turn : SessionTurn) (ended : Bool) (proxy : ProxyState) (o : Option SessionState) → StopsAt turn proxy o → ends_by turn ended ≡ true
    → (waiting_of o ≡ []) × ((ended ≡ true) ⊎ (is_closed_at o ≡ true))
no_more turns.Took ended proxy o h e = absurd h
no_more turns.Idle ended proxy o h e = (h.0, inl e)
no_more turns.Waiting ended proxy o h e = absurd cc
no_more turns.Closing ended proxy o h e = (h.0, inr h.1)

-- if all is answered and sent and nothing more will arrive, the session is over
pub over : (turn : SessionTurn) (ended answer : Bool) (proxy : ProxyState) (a b : Option SessionState) → StopsAt turn proxy a → IsSentOf a b
    → answer ≡ ((length (output_of b) == 0) && ((unanswered_of b == 0) && ends_by turn ended)) → answer ≡ true → IsOver ended b
over turn ended answer proxy a b h same is e =
    let first = both (length (output_of b) == 0) ((unanswered_of b == 0) && ends_by turn ended) answer is e in
    let second = both (unanswered_of b == 0) (ends_by turn ended) ((unanswered_of b == 0) && ends_by turn ended) refl first.1 in
    let more = no_more turn ended proxy a h second.1 in
    record {
      none_waits = same.waits ∙ more.0;
      all_answered = grind (arith, nat_tests, second.0);
      all_sent = no_bytes (output_of b) (grind (arith, nat_tests, first.0));
      no_more = elim more.1 [
        | inl e ↦ inl e
        | inr e ↦ inr (same.closed ∙ e)
      ];
    }

-- if turns stopped, none waits or the first waits for a mark
stopped_at : (turn : SessionTurn) (proxy : ProxyState) (session : Option SessionState) → StopsAt turn proxy session → (waiting_of session ≡ []) ⊎ IsHeldUpAt proxy.ring proxy.links session
stopped_at turns.Took proxy session h = absurd h
stopped_at turns.Idle proxy session h = inl h.0
stopped_at turns.Waiting proxy session h = inr h
stopped_at turns.Closing proxy session h = inl h.0

-- if the first request must wait for a mark, a request waits
held_waits : (ring : RingState) (links : List LinkState) (session : Option SessionState) → IsHeldUpAt ring links session → waiting_of session ≡ [] → ⊥
held_waits ring links None h none = h
held_waits ring links (Some s) h none = let clash : h.what ∷ h.others ≡ [] = sym h.first ∙ none in absurd cc

-- if nothing waits or is unsent, and the input is read no further, it has ended
not_read : (turn : SessionTurn) (ended marked : Bool) (proxy : ProxyState) (o : Option SessionState) → StopsAt turn proxy o → reads_by turn ended marked ≡ false → marked ≡ false → waiting_of o ≡ []
    → ends_by turn ended ≡ true
not_read turns.Took ended marked proxy o h e unmarked none = absurd h
not_read turns.Idle true marked proxy o h e unmarked none = refl
not_read turns.Idle false true proxy o h e unmarked none = absurd cc
not_read turns.Idle false false proxy o h e unmarked none = absurd cc
not_read turns.Waiting ended marked proxy o h e unmarked none = absurd (held_waits proxy.ring proxy.links o h none)
not_read turns.Closing ended marked proxy o h e unmarked none = refl

-- no bytes are less than the mark
pub unmarked : (output : List ℕ) → output ≡ [] → nat_le UNSENT_MARK (length output) ≡ false
unmarked [] none = refl
unmarked (b ∷ bs) none = absurd cc

-- if the session is not over, and the input is read no further, it is stuck
pub stuck : (turn : SessionTurn) (ended marked answer : Bool) (proxy : ProxyState) (o : Option SessionState) → StopsAt turn proxy o → HasAnswered o
    → answer ≡ ((length (output_of o) == 0) && ((unanswered_of o == 0) && ends_by turn ended)) → answer ≡ false
    → reads_by turn ended marked ≡ false → (output_of o ≡ [] → marked ≡ false) → IsStuck ended proxy o
stuck turn ended marked answer proxy o h answered is e unread unmarked = record {
  taken = stopped_at turn proxy o h;
  answered = answered;
  goes_on = λ all.
      let ends : ends_by turn ended ≡ true = not_read turn ended marked proxy o h unread (unmarked all.all_sent) all.none_waits in
      let sent : (length (output_of o) == 0) ≡ true = rw all.all_sent refl in
      let none : (unanswered_of o == 0) ≡ true = rw all.all_answered refl in
      let clash : true ≡ false = sym (rw sent (rw none (rw ends refl))) ∙ sym is ∙ e in
      absurd cc;
}

-- if the input is read on, no request waits, and less is unsent than the mark
pub read_on : (turn : SessionTurn) (ended marked answer : Bool) (proxy : ProxyState) (o : Option SessionState) → StopsAt turn proxy o → answer ≡ reads_by turn ended marked → answer ≡ true
    → (StopsAt turns.Idle proxy o) × (ended ≡ false) × (marked ≡ false)
read_on turns.Took ended marked answer proxy o h is e = absurd h
read_on turns.Idle true marked answer proxy o h is e = let clash : true ≡ false = sym e ∙ is in absurd cc
read_on turns.Idle false true answer proxy o h is e = let clash : true ≡ false = sym e ∙ is in absurd cc
read_on turns.Idle false false answer proxy o h is e = (h, refl, refl)
read_on turns.Waiting ended marked answer proxy o h is e = let clash : true ≡ false = sym e ∙ is in absurd cc
read_on turns.Closing ended marked answer proxy o h is e = let clash : true ≡ false = sym e ∙ is in absurd cc

-- a session whose input is read on is not over
pub unheard : (ended : Bool) (proxy : ProxyState) (o : Option SessionState) → waiting_of o ≡ [] → emitted_at o ≡ None → is_closed_at o ≡ false → ended ≡ false → IsStuck ended proxy o
unheard ended proxy o none unknown closed goes_on = record {
  taken = inl none;
  answered = inl unknown;
  goes_on = λ all. elim all.no_more [
    | inl e ↦ let clash : true ≡ false = sym e ∙ goes_on in absurd cc
    | inr e ↦ let clash : true ≡ false = sym e ∙ closed in absurd cc
  ];
}

-- one answer more was emitted, or none
pub how_more : (answered : Bool) (number : ℕ) (a b c : ProxyState) → HowMany answered number a b → work_of (session_at c number) < work_of (session_at b number) → HowMany true number a c
how_more true number a b c h less = omega (arith, h, less)
how_more false number a b c h less = subst (λ (p : ProxyState). work_of (session_at c number) < work_of (session_at p number)) h less

pub how_same : (answered : Bool) (number : ℕ) (a b c : ProxyState) → HowMany answered number a b → c ≡ b → HowMany answered number a c
how_same true number a b c h same = subst (λ (p : ProxyState). work_of (session_at p number) < work_of (session_at a number)) (sym same) h
how_same false number a b c h same = same ∙ h

-- if nothing changes, the work and the unread bytes are as they were
pub early_kept : (number left left' : ℕ) (old new : ProxyState) → left' ≡ left → new ≡ old → EndsEarly left (session_at old number) → EndsEarly left' (session_at new number)
early_kept number left left' old new same kept h =
    (subst (λ (n : ℕ). 0 < n) (sym same) h.0, subst (λ (p : ProxyState). is_foreign_at (session_at p number) ≡ false) (sym kept) h.1)

-- likewise if no answer is emitted
pub early_rested : (answered : Bool) (number left left' : ℕ) (old new : ProxyState) → HowMany answered number old new → answered ≡ false → left' ≡ left
    → EndsEarly left (session_at old number) → EndsEarly left' (session_at new number)
early_rested true number left left' old new how none same h = absurd cc
early_rested false number left left' old new how none same h = early_kept number left left' old new same how h

-- a write leaves the work and the unread bytes as they were
pub early_sent : (left left' : ℕ) (a b : Option SessionState) → left' ≡ left → IsSentOf a b → EndsEarly left a → EndsEarly left' b
early_sent left left' a b same sent h = (subst (λ (n : ℕ). 0 < n) (sym same) h.0, sent.foreign ∙ h.1)
