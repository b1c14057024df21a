-- How many requests of a session are answered, after each call of a proxy.
use Rattle.std.proofs.Common.{◌≡◌, ◌≢◌, ◌∙◌, ⊎_elim, ℕ, zero, suc, ◌+◌, ◌-◌, ◌≤◌, true, false, if◌then◌else◌, List, [], ◌∷◌, ◌++◌, length, drop, Option, Some, None, refl, sym, ap, subst, arith}
use Rattle.std.specs.Prelude.{nat_lt}
use Rattle.std.specs.Option.{option_map}
use Rattle.std.proofs.lemmas.Bool.Decides.{eqb_tells}
use Rattle.std.proofs.lemmas.List.{length-append, length-map, length_push}
use Rattle.std.proofs.lemmas.Option.{none-some, same_Some}
use Rattle.mc_ring.specs.Rings.{RingState}
use Rattle.mc_route.specs.declared.outcomes.Outcome.{Outcome}
use Rattle.mc_route.specs.declared.outcomes.Outcome.TheVariants.{Lost, Reply}
use Rattle.mc_route.specs.declared.losses.Losses.{Losses}
use Rattle.mc_link.specs.LinkState.{LinkState, Waiting}
use Rattle.mc_link.specs.declared.turns.Tag.{Tag}
use Rattle.mc_proxy.specs.Emits.{IsEmit, answer_of_one, emitted_from, is_known}
use Rattle.mc_proxy.specs.SessionNoting.{set_outcome_in_session, set_outcome_of_request}
use Rattle.mc_proxy.specs.SessionState.{SessionState, Unanswered, answered, link_at}
use Rattle.mc_proxy.specs.SessionTurns.{IsFed, IsTurn}
use Rattle.mc_proxy.specs.declared.session_turns.Emit.TheVariants as emits
use Rattle.mc_proxy.specs.declared.session_turns.SessionTurn.{SessionTurn}
use Rattle.mc_proxy.specs.declared.session_turns.SessionTurn.TheVariants as turns
use Rattle.mc_proxy.specs.LinkTurns.{Answers, lost_at}
use Rattle.mc_proxy.specs.Noting.{all_lost, noted}
use Rattle.mc_proxy.specs.ProxyState.{ProxyState, Sessions, sent_by, session_at, session_in, updated}
use Rattle.mc_proxy.specs.Turns.{Alone, Steps}
use Rattle.mc_account.specs.Answered.{answered_at}
use Rattle.mc_account.specs.Lanes.{Lane}
use Rattle.mc_account.specs.Orders.{Order, entries_of, unanswered_of}
use Rattle.mc_account.specs.Holds.{ProxyHolds, SessionHolds}
use Rattle.mc_account.proofs.OpenSessions.{at_each, noted_other, noted_own, updated_other, updated_own}
use Rattle.mc_account.proofs.HoldsLemmas.{stood}

-- a session with as many answered requests as another one
pub answered_there : (old new : Option SessionState) (after : SessionState) → option_map answered new ≡ option_map answered old → new ≡ Some after
    → (before : SessionState) × (old ≡ Some before) × (answered after ≡ answered before)
answered_there None new after same is = absurd (none-some (answered after) (sym same ∙ ap (λ (s : Option SessionState). option_map answered s) is))
answered_there (Some before) new after same is =
    (before, refl, same_Some (answered after) (answered before) (sym (ap (λ (s : Option SessionState). option_map answered s) is) ∙ same))

-- the state of the session of its number after a step, and of the others
pub steps_own : (number : ℕ) (old new : ProxyState) (before after : SessionState) → session_at old number ≡ Some before → new.sessions ≡ updated number after old.sessions
    → session_at new number ≡ Some after
steps_own number old new before after was is =
    ap (λ (open_ones : Sessions). session_in open_ones number) is ∙ updated_own number before after old.sessions was

pub steps_other : (number other : ℕ) (old new : ProxyState) (after : SessionState) → new.sessions ≡ updated number after old.sessions → number ≢ other
    → session_at new other ≡ session_at old other
steps_other number other old new after is differ =
    ap (λ (open_ones : Sessions). session_in open_ones other) is ∙ updated_other number other after old.sessions differ

-- a step that answers nothing
answered_step : (number : ℕ) (old new : ProxyState) (before after : SessionState) → session_at old number ≡ Some before → new.sessions ≡ updated number after old.sessions
    → answered after ≡ answered before → (m : ℕ) → answered_at new m ≡ answered_at old m
answered_step number old new before after was is same m =
    at_each number before after old.sessions new.sessions was is (λ n s. option_map answered s ≡ answered_at old n)
    (ap (λ (count : ℕ). Some count) same ∙ sym (ap (λ (s : Option SessionState). option_map answered s) was))
    (λ _ _. refl) m

-- `feed`
pub answered-fed : (number : ℕ) (piece : List ℕ) (old new : ProxyState) → Steps number old new (Alone (IsFed piece)) → (m : ℕ) → answered_at new m ≡ answered_at old m
answered-fed number piece old new steps m =
    answered_step number old new steps.before steps.after steps.was steps.is (ap (λ (s : SessionState). answered s) steps.step.1.all_else) m

-- `turn`: a request that is taken is not answered yet
turn_answers : (number : ℕ) (turn : SessionTurn) (ring : RingState) (losses : Losses) (links now : List LinkState) (before after : SessionState) → IsTurn number turn ring losses links now before after
    → answered after ≡ answered before
turn_answers number turns.Took ring losses links now before after step =
    let more : length after.unanswered ≡ length before.unanswered + 1 = ap (λ (us : List Unanswered). length us) step.1.unanswered ∙ length_push before.unanswered _ in
    omega (arith, step.1.taken, more)
turn_answers number turns.Idle ring losses links now before after step = ap (λ (s : SessionState). answered s) step.1.1
turn_answers number turns.Waiting ring losses links now before after step = ap (λ (s : SessionState). answered s) step.1.1
turn_answers number turns.Closing ring losses links now before after step = ap (λ (s : SessionState). answered s) step.1.1

pub answered-turn : (number : ℕ) (turn : SessionTurn) (ring : RingState) (losses : Losses) (old new : ProxyState) → Steps number old new (IsTurn number turn ring losses) → (m : ℕ) → answered_at new m ≡ answered_at old m
answered-turn number turn ring losses old new steps m =
    answered_step number old new steps.before steps.after steps.was steps.is (turn_answers number turn ring losses old.links new.links steps.before steps.after steps.step) m

-- `emit` that emitted nothing
pub answered-idle_emit : (number : ℕ) (old new : ProxyState) → Steps number old new (Alone (IsEmit emits.Idle)) → (m : ℕ) → answered_at new m ≡ answered_at old m
answered-idle_emit number old new steps m =
    answered_step number old new steps.before steps.after steps.was steps.is (ap (λ (s : SessionState). answered s) steps.step.1.1) m

-- `emit` that answered: one more
emitted_parts : (before after : SessionState) (unanswered : List Unanswered) → emitted_from before unanswered ≡ Some after
    → (after.taken ≡ before.taken) × (length unanswered ≡ length after.unanswered + 1)
emitted_parts before after [] is = absurd (none-some after is)
emitted_parts before after (u ∷ us) is =
    (elim (is_known u) as (λ v. (if v then Some (record before { output = before.output ++ answer_of_one u; unanswered = us }) else None) ≡ Some after
    → (after.taken ≡ before.taken) × (length (u ∷ us) ≡ length after.unanswered + 1)) [
      | true ↦ λ now.
          let same : record before { output = before.output ++ answer_of_one u; unanswered = us } ≡ after = same_Some (record before { output = before.output ++ answer_of_one u; unanswered = us }) after now in
          let size : length us ≡ length after.unanswered = ap (λ (s : SessionState). length s.unanswered) same in
          (sym (ap (λ (s : SessionState). s.taken) same), omega (arith, size))
      | false ↦ λ now. absurd (none-some after now)
    ]) is

-- a session has taken the requests that it has not answered
pub unanswered_within : (number : ℕ) (order : Order) (text sent : List ℕ) (session : SessionState) → SessionHolds number order text sent session
    → length session.unanswered ≤ session.taken
unanswered_within number order text sent session h =
    let size : length (entries_of number order) ≡ length (h.done ++ h.incomplete) = ap (λ (es : Order). length es) h.split in
    let open_ones : length session.unanswered ≡ length h.incomplete = ap (λ (us : List Unanswered). length us) h.unanswered ∙ length-map h.incomplete unanswered_of in
    omega (arith, h.taken, size, length-append h.done h.incomplete, open_ones)

pub answered-emitted : (texts sent : ℕ → List ℕ) (order : Order) (lanes : ℕ → Lane) (number : ℕ) (old new : ProxyState) → ProxyHolds texts sent order lanes old
    → (steps : Steps number old new (Alone (IsEmit emits.Done))) → answered steps.after ≡ answered steps.before + 1
answered-emitted texts sent order lanes number old new h steps =
    let parts = emitted_parts steps.before steps.after steps.before.unanswered steps.step.1 in
    let taken : steps.after.taken ≡ steps.before.taken = parts.0 in
    let size : length steps.before.unanswered ≡ length steps.after.unanswered + 1 = parts.1 in
    let within : length steps.before.unanswered ≤ steps.before.taken =
    unanswered_within number order (texts number) (sent number) steps.before (stood texts sent order lanes old number steps.before h steps.was) in
    omega (arith, taken, size, within)

-- `taken_out`
answered_sent_from : (number count : ℕ) (old : ProxyState) (session : Option SessionState) → session_at old number ≡ session → (m : ℕ)
    → answered_at (sent_by number count session old) m ≡ answered_at old m
answered_sent_from number count old None was m = refl
answered_sent_from number count old (Some before) was m =
    answered_step number old (sent_by number count (Some before) old) before (record before { output = drop count before.output }) was refl refl m

pub answered-sent : (number count : ℕ) (old : ProxyState) (m : ℕ) → answered_at (sent_by number count (session_at old number) old) m ≡ answered_at old m
answered-sent number count old m = answered_sent_from number count old (session_at old number) refl m

-- an outcome is noted
length-set_outcome_of_request : (place atom : ℕ) (outcome : Outcome) (us : List Unanswered) → length (set_outcome_of_request place atom outcome us) ≡ length us
length-set_outcome_of_request place atom outcome [] = refl
length-set_outcome_of_request zero atom outcome (u ∷ us) = refl
length-set_outcome_of_request (suc place) atom outcome (u ∷ us) = ap suc (length-set_outcome_of_request place atom outcome us)

answered-set_outcome_in_session : (tag : Tag) (outcome : Outcome) (session : SessionState)
    → answered (set_outcome_in_session tag outcome session) ≡ answered session
answered-set_outcome_in_session tag outcome session =
    (elim (nat_lt tag.request (answered session)) as (λ v.
    answered (if v then session else record session { unanswered = set_outcome_of_request (tag.request - answered session) tag.atom outcome session.unanswered }) ≡ answered session) [
      | true ↦ refl
      | false ↦ ap (λ (size : ℕ). session.taken - size) (length-set_outcome_of_request (tag.request - answered session) tag.atom outcome session.unanswered)
    ])

answered_noted_at : (tag : Tag) (outcome : Outcome) (session : Option SessionState) → option_map answered (option_map (set_outcome_in_session tag outcome) session) ≡ option_map answered session
answered_noted_at tag outcome None = refl
answered_noted_at tag outcome (Some session) = ap (λ (count : ℕ). Some count) (answered-set_outcome_in_session tag outcome session)

pub answered-noted : (tag : Tag) (outcome : Outcome) (sessions : Sessions) (m : ℕ) → option_map answered (session_in (noted tag outcome sessions) m) ≡ option_map answered (session_in sessions m)
answered-noted tag outcome sessions m =
    ⊎_elim
    (λ own. subst (λ (n : ℕ). option_map answered (session_in (noted tag outcome sessions) n) ≡ option_map answered (session_in sessions n)) own.1
    (ap (λ (s : Option SessionState). option_map answered s) (noted_own tag outcome sessions) ∙ answered_noted_at tag outcome (session_in sessions tag.session)))
    (λ other. ap (λ (s : Option SessionState). option_map answered s) (noted_other tag outcome m sessions other.1))
    (eqb_tells tag.session m)

answered-all_lost : (waiting : List Waiting) (sessions : Sessions) (m : ℕ) → option_map answered (session_in (all_lost waiting sessions) m) ≡ option_map answered (session_in sessions m)
answered-all_lost [] sessions m = refl
answered-all_lost (w ∷ ws) sessions m = answered-all_lost ws (noted w.1 Lost sessions) m ∙ answered-noted w.1 Lost sessions m

-- `link_turn` that took a reply
pub answered-replied : (place : ℕ) (old new : ProxyState) → Answers place old new → (m : ℕ) → answered_at new m ≡ answered_at old m
answered-replied place old new answers m =
    ap (λ (sessions : Sessions). option_map answered (session_in sessions m)) answers.sessions ∙ answered-noted answers.tag (Reply answers.reply) old.sessions m

-- `lost`, and a `link_turn` with a violation
pub answered-lost : (place : ℕ) (old : ProxyState) (m : ℕ) → answered_at (lost_at place old) m ≡ answered_at old m
answered-lost place old m = answered-all_lost (link_at old.links place).waiting old.sessions m
