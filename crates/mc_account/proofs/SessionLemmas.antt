-- The state of a session, after each of its calls and after an outcome is noted.
use Rattle.std.proofs.Common.{◌≡◌, ◌≢◌, ◌∙◌, ⊎_elim, ℕ, suc, ◌+◌, ◌-◌, ◌<◌, ◌≤◌, ◌==◌, Bool, true, false, if◌then◌else◌, List, [], ◌∷◌, ◌++◌, length, map, drop, take, Option, Some, None, refl, sym, ap, ap₂, subst, append_assoc, append-nil, arith}
use Rattle.std.specs.Prelude.{nat_lt}
use Rattle.std.specs.List.{list_all}
use Rattle.std.proofs.lemmas.Bool.{and_from, and_left, and_right, cases_lt, eq-eqb, eqb-true, le-ltb}
use Rattle.std.proofs.lemmas.List.{length-append, length-map, map-append, take-append-drop}
use Rattle.mc_request_reader.specs.Reader.{rest_of}
use Rattle.mc_request.specs.Requests.{requests_of}
use Rattle.mc_request.specs.declared.parts.Parsed.{Parsed}
use Rattle.mc_request.specs.declared.parts.Parsed.TheVariants.{Whole, Faulty}
use Rattle.mc_ring.specs.Rings.{RingState}
use Rattle.mc_route.specs.Kept.{kept_of}
use Rattle.mc_route.specs.Routes.{route_of_taken}
use Rattle.mc_route.specs.declared.outcomes.Outcome.{Outcome}
use Rattle.mc_route.proofs.KeptLemmas.{with-kept}
use Rattle.mc_route.specs.declared.losses.Losses.{Losses}
use Rattle.mc_link.specs.LinkState.{LinkState}
use Rattle.mc_link.specs.declared.turns.Tag.{Tag}
use Rattle.mc_proxy.specs.Emits.{answer_by, answer_of_one, emitted, emitted_from}
use Rattle.mc_proxy.specs.SessionNoting.{set_outcome, set_outcome_in_session, set_outcome_of_request}
use Rattle.mc_proxy.specs.Sending.{at_once}
use Rattle.mc_proxy.specs.SessionState.{SessionState, Unanswered, answered, fresh_session}
use Rattle.mc_proxy.specs.SessionTurns.{IsFed, Takes}
use Rattle.mc_account.specs.Orders.{TakenRequest, Order, AreInOrder, entries_of, is_complete, note, note_in, numbers_from, owns, taken_of, unanswered_of}
use Rattle.mc_account.specs.Holds.{SessionLeft, SessionHolds, SessionHoldsAt}
use Rattle.mc_account.proofs.OpenSessions.{other_number}
use Rattle.mc_account.proofs.OrderLemmas.{answers-push, entries-note, entries_push_own, note-append, numbered_after, passes_joined, taken-note}
use Rattle.mc_account.proofs.TagLemmas.{owners, owners-append, owners_later, owners_of, incomplete-append, incomplete_none, incomplete_of, incomplete_owners, incomplete_owners-le, weight}

-- the state of a session depends only on an order's entries of it
pub session_same : (number : ℕ) (order longer : Order) (text text' sent sent' : List ℕ) (session : Option SessionState)
    → entries_of number longer ≡ entries_of number order → text' ≡ text → sent' ≡ sent
    → SessionHoldsAt number order text sent session → SessionHoldsAt number longer text' sent' session
session_same number order longer text text' sent sent' None same text_is sent_is h = record {
  untaken = h.untaken;
  rest = ap (λ (es : Order). map (λ (e : TakenRequest). e.what) es ++ h.untaken) same ∙ h.rest ∙ ap requests_of (sym text_is);
  done = h.done;
  incomplete = h.incomplete;
  split = same ∙ h.split;
  complete = h.complete;
  unsent = h.unsent;
  answered = ap (λ (bytes : List ℕ). bytes ++ h.unsent) sent_is ∙ h.answered;
}
session_same number order longer text text' sent sent' (Some session) same text_is sent_is h = record {
  rest = λ more.
      ap (λ (es : Order). map (λ (e : TakenRequest). e.what) es ++ rest_of session.reader more) same
      ∙ h.rest more ∙ ap (λ (bytes : List ℕ). requests_of (bytes ++ more)) (sym text_is);
  done = h.done;
  incomplete = h.incomplete;
  split = same ∙ h.split;
  complete = h.complete;
  answered = ap (λ (bytes : List ℕ). bytes ++ session.output) sent_is ∙ h.answered;
  unanswered = h.unanswered;
  taken = h.taken ∙ ap (λ (es : Order). length es) (sym same);
}

-- a session of which nothing was taken yet
pub session_fresh : (number : ℕ) (order : Order) → entries_of number order ≡ [] → SessionHolds number order [] [] fresh_session
session_fresh number order none = record {
  rest = λ more. ap (λ (es : Order). map (λ (e : TakenRequest). e.what) es ++ requests_of more) none;
  done = [];
  incomplete = [];
  split = none;
  complete = refl;
  answered = refl;
  unanswered = refl;
  taken = ap (λ (es : Order). length es) (sym none);
}

-- an open session holds, and so does one that has left
pub session_left : (number : ℕ) (order : Order) (text sent : List ℕ) (session : Option SessionState) → SessionHoldsAt number order text sent session
    → SessionLeft number order text sent
session_left number order text sent None h = h
session_left number order text sent (Some session) h = record {
  untaken = rest_of session.reader [];
  rest = h.rest [] ∙ ap requests_of (append-nil text);
  done = h.done;
  incomplete = h.incomplete;
  split = h.split;
  complete = h.complete;
  unsent = session.output;
  answered = h.answered;
}

-- a piece arrives
pub session_fed : (number : ℕ) (order : Order) (text sent piece : List ℕ) (before after : SessionState)
    → SessionHolds number order text sent before → IsFed piece before after → SessionHolds number order (text ++ piece) sent after
session_fed number order text sent piece before after h fed = record {
  rest = λ more.
      ap (λ (ts : List Parsed). taken_of number order ++ ts) (fed.rest more)
      ∙ h.rest (piece ++ more) ∙ ap requests_of (sym (append_assoc text piece more));
  done = h.done;
  incomplete = h.incomplete;
  split = h.split;
  complete = h.complete;
  answered = ap (λ (s : SessionState). sent ++ s.output) fed.all_else ∙ h.answered;
  unanswered = ap (λ (s : SessionState). s.unanswered) fed.all_else ∙ h.unanswered;
  taken = ap (λ (s : SessionState). s.taken) fed.all_else ∙ h.taken;
}

-- a turn takes the first of the rest
pub session_took : (number : ℕ) (order : Order) (text sent : List ℕ) (ring : RingState) (losses : Losses) (links now : List LinkState) (before after : SessionState) (what : Parsed)
    → SessionHolds number order text sent before → Takes number ring losses links now before after what
    → SessionHolds number
    (order ++ (record { session = number; request = before.taken; what = what; ring = ring; losses = losses; outcomes = map (at_once links) (route_of_taken ring what) }) ∷ []) text sent after
session_took number order text sent ring losses links now before after what h takes =
    let e : TakenRequest = record { session = number; request = before.taken; what = what; ring = ring; losses = losses; outcomes = map (at_once links) (route_of_taken ring what) } in
    let mine : entries_of number (order ++ (record { session = number; request = before.taken; what = what; ring = ring; losses = losses; outcomes = map (at_once links) (route_of_taken ring what) }) ∷ [])
    ≡ entries_of number order ++ (record { session = number; request = before.taken; what = what; ring = ring; losses = losses; outcomes = map (at_once links) (route_of_taken ring what) }) ∷ [] =
    entries_push_own number order e refl in
    record {
      rest = λ more.
          ap (λ (es : Order). map (λ (x : TakenRequest). x.what) es ++ rest_of after.reader more) mine
          ∙ ap (λ (ts : List Parsed). ts ++ rest_of after.reader more) (map-append (λ (x : TakenRequest). x.what) (entries_of number order) (e ∷ []))
          ∙ append_assoc (taken_of number order) (what ∷ []) (rest_of after.reader more)
          ∙ ap (λ (ts : List Parsed). taken_of number order ++ ts) (sym (takes.first.rest more))
          ∙ h.rest more;
      done = h.done;
      incomplete = h.incomplete ++ e ∷ [];
      split = mine ∙ ap (λ (es : Order). es ++ e ∷ []) h.split ∙ append_assoc h.done h.incomplete (e ∷ []);
      complete = h.complete;
      answered = ap (λ (bytes : List ℕ). sent ++ bytes) takes.output ∙ h.answered;
      unanswered =
          takes.unanswered
          ∙ ap (λ (us : List Unanswered). us ++ unanswered_of e ∷ []) h.unanswered
          ∙ sym (map-append unanswered_of h.incomplete (e ∷ []));
      taken =
          let longer : length (entries_of number (order ++ e ∷ [])) ≡ length (entries_of number order ++ e ∷ []) = ap (λ (es : Order). length es) mine in
          omega (arith, takes.taken, h.taken, longer, length-append (entries_of number order) (e ∷ []));
    }

-- the first bytes of the output are sent to the client
pub session_sent : (number : ℕ) (order : Order) (text sent : List ℕ) (session : SessionState) (count : ℕ) → SessionHolds number order text sent session
    → SessionHolds number order text (sent ++ take count session.output) (record session { output = drop count session.output })
session_sent number order text sent session count h = record {
  rest = h.rest;
  done = h.done;
  incomplete = h.incomplete;
  split = h.split;
  complete = h.complete;
  answered =
      append_assoc sent (take count session.output) (drop count session.output)
      ∙ ap (λ (bytes : List ℕ). sent ++ bytes) (take-append-drop count session.output) ∙ h.answered;
  unanswered = h.unanswered;
  taken = h.taken;
}

-- a data block plays no part in an answer
answer_kept : (losses : Losses) (what : Parsed) (outcomes : List Outcome) → answer_by losses (kept_of what) outcomes ≡ answer_by losses what outcomes
answer_kept losses (Whole request) outcomes = with-kept losses request outcomes
answer_kept losses (Faulty fault) outcomes = refl

-- the oldest unanswered request, if it can be answered: it is complete, and its answer is emitted
record Emits (before after : SessionState) (incomplete : Order) : Type 0 where
  pub first : TakenRequest
  pub others : Order
  pub is : incomplete ≡ first ∷ others
  pub complete : is_complete first ≡ true
  pub now : after ≡ record before { output = before.output ++ answer_of_one (unanswered_of first); unanswered = map unanswered_of others }

emits_from : (before after : SessionState) (incomplete : Order) → emitted_from before (map unanswered_of incomplete) ≡ Some after → Emits before after incomplete
emits_from before after [] is = absurd cc
emits_from before after (e ∷ es) is =
    (elim (is_complete e) as (λ v. is_complete e ≡ v
    → (if v then Some (record before { output = before.output ++ answer_of_one (unanswered_of e); unanswered = map unanswered_of es }) else None) ≡ Some after
    → Emits before after (e ∷ es)) [
      | true ↦ λ complete now. record { first = e; others = es; is = refl; complete = complete; now = cc }
      | false ↦ λ complete now. absurd cc
    ]) refl is

pub session_emitted : (number : ℕ) (order : Order) (text sent : List ℕ) (before after : SessionState) → SessionHolds number order text sent before
    → emitted before ≡ Some after → SessionHolds number order text sent after
session_emitted number order text sent before after h is =
    let e = emits_from before after h.incomplete (ap (λ (us : List Unanswered). emitted_from before us) (sym h.unanswered) ∙ is) in
    record {
      rest = λ more. ap (λ (s : SessionState). taken_of number order ++ rest_of s.reader more) e.now ∙ h.rest more;
      done = h.done ++ e.first ∷ [];
      incomplete = e.others;
      split = h.split ∙ ap (λ (es : Order). h.done ++ es) e.is ∙ sym (append_assoc h.done (e.first ∷ []) e.others);
      complete = passes_joined is_complete h.done (e.first ∷ []) h.complete (and_from (is_complete e.first) true e.complete refl);
      answered =
          ap (λ (s : SessionState). sent ++ s.output) e.now
          ∙ sym (append_assoc sent before.output (answer_of_one (unanswered_of e.first)))
          ∙ ap₂ (λ (bytes more : List ℕ). bytes ++ more) h.answered (answer_kept e.first.losses e.first.what e.first.outcomes)
          ∙ sym (answers-push h.done e.first);
      unanswered = ap (λ (s : SessionState). s.unanswered) e.now;
      taken = ap (λ (s : SessionState). s.taken) e.now ∙ h.taken;
    }

-- all entries are of this session
abbrev AreOf : ℕ → Order → Type 0
AreOf number [] = Unit {0}
AreOf number (e ∷ es) = ((e.session == number) ≡ true) × AreOf number es

are_of : (number : ℕ) (es : Order) → AreOf number (entries_of number es)
are_of number [] = tt
are_of number (e ∷ es) =
    let again = are_of number es in
    (elim (e.session == number) as (λ v. e.session == number ≡ v → AreOf number (if v then e ∷ entries_of number es else entries_of number es)) [
      | true ↦ λ is. (is, again)
      | false ↦ λ is. again
    ]) refl

are_of_after : (number : ℕ) (front back : Order) → AreOf number (front ++ back) → AreOf number back
are_of_after number [] back h = h
are_of_after number (e ∷ front) back h = are_of_after number front back h.1

-- if none has the tag, nothing changes
pub note_absent : (tag : Tag) (outcome : Outcome) (es : Order) → owners tag es ≡ 0 → note tag outcome es ≡ es
note_absent tag outcome [] none = refl
note_absent tag outcome (e ∷ es) none =
    let again = λ (rest : owners tag es ≡ 0). note_absent tag outcome es rest in
    (elim (owns tag e) as (λ v. weight v + owners tag es ≡ 0
    → record e { outcomes = if v then set_outcome tag.atom outcome e.outcomes else e.outcomes } ∷ note tag outcome es ≡ e ∷ es) [
      | true ↦ λ sum. absurd (omega (arith, sum))
      | false ↦ λ sum. ap (λ (xs : Order). e ∷ xs) (again (omega (arith, sum)))
    ]) none

-- no entry of another session has the tag
pub owners_elsewhere : (tag : Tag) (number : ℕ) (es : Order) → tag.session ≢ number → owners tag (entries_of number es) ≡ 0
owners_elsewhere tag number [] differ = refl
owners_elsewhere tag number (e ∷ es) differ =
    let again = owners_elsewhere tag number es differ in
    (elim (e.session == number) as (λ v. e.session == number ≡ v → owners tag (if v then e ∷ entries_of number es else entries_of number es) ≡ 0) [
      | true ↦ λ is.
          let whose : e.session ≡ number = eqb-true e.session number is in
          let apart : owns tag e ≡ false =
          and_left (e.session == tag.session) (e.request == tag.request) (other_number e.session tag.session (λ same. differ (sym same ∙ whose))) in
          rw apart (omega (arith, again))
      | false ↦ λ is. again
    ]) refl

-- an outcome is noted at its place among the unanswered requests
noted_among : (tag : Tag) (outcome : Outcome) (at : ℕ) (es : Order) → AreOf tag.session es → map (λ (e : TakenRequest). e.request) es ≡ numbers_from at es → at ≤ tag.request
    → map unanswered_of (note tag outcome es) ≡ set_outcome_of_request (tag.request - at) tag.atom outcome (map unanswered_of es)
noted_among tag outcome at [] whose numbered h = refl
noted_among tag outcome at (e ∷ es) whose numbered h =
    let here : e.request ≡ at = cc in
    let past : map (λ (x : TakenRequest). x.request) es ≡ numbers_from (suc at) es = cc in
    ⊎_elim
    (λ (later : at < tag.request).
    let apart : owns tag e ≡ false = and_right (e.session == tag.session) (e.request == tag.request) (other_number e.request tag.request (λ same. omega (arith, here, same, later))) in
    let next : tag.request - at ≡ suc (tag.request - suc at) = omega (arith, later) in
    ap (λ (v : Bool). unanswered_of (record e { outcomes = if v then set_outcome tag.atom outcome e.outcomes else e.outcomes }) ∷ map unanswered_of (note tag outcome es)) apart
    ∙ ap (λ (us : List Unanswered). unanswered_of e ∷ us) (noted_among tag outcome (suc at) es whose.1 past later)
    ∙ ap (λ (n : ℕ). set_outcome_of_request n tag.atom outcome (unanswered_of e ∷ map unanswered_of es)) (sym next))
    (λ (not_later : tag.request ≤ at).
    let own : owns tag e ≡ true = and_from (e.session == tag.session) (e.request == tag.request) whose.0 (eq-eqb e.request tag.request (omega (arith, here, h, not_later))) in
    let none : tag.request - at ≡ 0 = omega (arith, not_later) in
    ap (λ (v : Bool). unanswered_of (record e { outcomes = if v then set_outcome tag.atom outcome e.outcomes else e.outcomes }) ∷ map unanswered_of (note tag outcome es)) own
    ∙ ap (λ (xs : Order). unanswered_of (record e { outcomes = set_outcome tag.atom outcome e.outcomes }) ∷ map unanswered_of xs)
    (note_absent tag outcome es (owners_later tag (suc at) es past (omega (arith, not_later))))
    ∙ ap (λ (n : ℕ). set_outcome_of_request n tag.atom outcome (unanswered_of e ∷ map unanswered_of es)) (sym none))
    (cases_lt at tag.request)

-- the entry of a tag that is not complete is not among those that are
record NotDone (tag : Tag) (done incomplete : Order) : Type 0 where
  pub absent : owners tag done ≡ 0
  pub there : 1 ≤ owners tag incomplete

not_done : (tag : Tag) (order done incomplete : Order) → entries_of tag.session order ≡ done ++ incomplete → list_all is_complete done ≡ true
    → owners tag order ≤ 1 → 1 ≤ incomplete_owners tag order → NotDone tag done incomplete
not_done tag order done incomplete split complete once open_one =
    let own : owners tag (done ++ incomplete) ≡ owners tag order = ap (λ (es : Order). owners tag es) (sym split) ∙ owners_of tag order in
    let waits : incomplete_owners tag (done ++ incomplete) ≡ incomplete_owners tag order = ap (λ (es : Order). incomplete_owners tag es) (sym split) ∙ incomplete_of tag order in
    let there : 1 ≤ owners tag incomplete =
    omega (arith, waits, incomplete-append tag done incomplete, incomplete_none tag done complete, incomplete_owners-le tag incomplete, open_one) in
    record {
      absent = omega (arith, own, owners-append tag done incomplete, there, once);
      there = there;
    }

-- the entries of the tag's session, after its outcome is noted
noted_split : (tag : Tag) (outcome : Outcome) (order done incomplete : Order) → entries_of tag.session order ≡ done ++ incomplete → owners tag done ≡ 0
    → entries_of tag.session (note tag outcome order) ≡ done ++ note tag outcome incomplete
noted_split tag outcome order done incomplete split absent =
    entries-note tag.session tag outcome order
    ∙ ap (λ (es : Order). note tag outcome es) split
    ∙ note-append tag outcome done incomplete
    ∙ ap (λ (es : Order). es ++ note tag outcome incomplete) (note_absent tag outcome done absent)

noted_taken : (tag : Tag) (outcome : Outcome) (number : ℕ) (order : Order) → taken_of number (note tag outcome order) ≡ taken_of number order
noted_taken tag outcome number order =
    ap (λ (es : Order). map (λ (e : TakenRequest). e.what) es) (entries-note number tag outcome order) ∙ taken-note tag outcome (entries_of number order)

-- the session notes it at the same place
noted_unanswered : (tag : Tag) (outcome : Outcome) (session : SessionState) (done incomplete : Order) → AreOf tag.session incomplete
    → map (λ (e : TakenRequest). e.request) incomplete ≡ numbers_from (length done) incomplete → session.unanswered ≡ map unanswered_of incomplete
    → session.taken ≡ length done + length incomplete → 1 ≤ owners tag incomplete
    → set_outcome_in_session tag outcome session ≡ record session { unanswered = map unanswered_of (note tag outcome incomplete) }
noted_unanswered tag outcome session done incomplete whose numbered unanswered taken there =
    let many : length session.unanswered ≡ length incomplete = ap (λ (us : List Unanswered). length us) unanswered ∙ length-map incomplete unanswered_of in
    let first : answered session ≡ length done = omega (arith, many, taken) in
    let late : length done ≤ tag.request =
    ⊎_elim (λ (early : tag.request < length done). absurd (omega (arith, owners_later tag (length done) incomplete numbered early, there))) (λ (fine : length done ≤ tag.request). fine)
    (cases_lt tag.request (length done)) in
    let not_answered : nat_lt tag.request (answered session) ≡ false = le-ltb tag.request (answered session) (omega (arith, first, late)) in
    ap (λ (v : Bool). if v then session else record session { unanswered = set_outcome_of_request (tag.request - answered session) tag.atom outcome session.unanswered }) not_answered
    ∙ ap₂ (λ (n : ℕ) (us : List Unanswered). record session { unanswered = set_outcome_of_request (tag.request - n) tag.atom outcome us }) first unanswered
    ∙ ap (λ (us : List Unanswered). record session { unanswered = us }) (sym (noted_among tag outcome (length done) incomplete whose numbered late))

-- an outcome is noted that was pending: the session of its tag
pub session_noted : (tag : Tag) (outcome : Outcome) (order : Order) (text sent : List ℕ) (session : SessionState) → AreInOrder (entries_of tag.session order)
    → owners tag order ≤ 1 → 1 ≤ incomplete_owners tag order
    → SessionHolds tag.session order text sent session
    → SessionHolds tag.session (note tag outcome order) text sent (set_outcome_in_session tag outcome session)
session_noted tag outcome order text sent session numbered once open_one h =
    let n = not_done tag order h.done h.incomplete h.split h.complete once open_one in
    let whose = are_of_after tag.session h.done h.incomplete (subst (λ (es : Order). AreOf tag.session es) h.split (are_of tag.session order)) in
    let past = numbered_after 0 h.done h.incomplete (subst (λ (es : Order). AreInOrder es) h.split numbered) in
    let ahead : map (λ (e : TakenRequest). e.request) h.incomplete ≡ numbers_from (length h.done) h.incomplete =
    subst (λ (at : ℕ). map (λ (e : TakenRequest). e.request) h.incomplete ≡ numbers_from at h.incomplete) (omega arith) past in
    let size : session.taken ≡ length h.done + length h.incomplete = h.taken ∙ ap (λ (es : Order). length es) h.split ∙ length-append h.done h.incomplete in
    let now = noted_unanswered tag outcome session h.done h.incomplete whose ahead h.unanswered size n.there in
    let split = noted_split tag outcome order h.done h.incomplete h.split n.absent in
    record {
      rest = λ more.
          ap₂ (λ (ts : List Parsed) (s : SessionState). ts ++ rest_of s.reader more) (noted_taken tag outcome tag.session order) now ∙ h.rest more;
      done = h.done;
      incomplete = note tag outcome h.incomplete;
      split = split;
      complete = h.complete;
      answered = ap (λ (s : SessionState). sent ++ s.output) now ∙ h.answered;
      unanswered = ap (λ (s : SessionState). s.unanswered) now;
      taken =
          let longer : length (entries_of tag.session (note tag outcome order)) ≡ length (h.done ++ note tag outcome h.incomplete) = ap (λ (es : Order). length es) split in
          let same : (set_outcome_in_session tag outcome session).taken ≡ session.taken = ap (λ (s : SessionState). s.taken) now in
          omega (arith, same, size, longer, length-append h.done (note tag outcome h.incomplete), length-map h.incomplete (note_in tag outcome));
    }

-- an outcome is noted that was pending: a session that has left
pub left_noted : (tag : Tag) (outcome : Outcome) (order : Order) (text sent : List ℕ) → owners tag order ≤ 1 → 1 ≤ incomplete_owners tag order
    → SessionLeft tag.session order text sent → SessionLeft tag.session (note tag outcome order) text sent
left_noted tag outcome order text sent once open_one h =
    let n = not_done tag order h.done h.incomplete h.split h.complete once open_one in
    record {
      untaken = h.untaken;
      rest = ap (λ (ts : List Parsed). ts ++ h.untaken) (noted_taken tag outcome tag.session order) ∙ h.rest;
      done = h.done;
      incomplete = note tag outcome h.incomplete;
      split = noted_split tag outcome order h.done h.incomplete h.split n.absent;
      complete = h.complete;
      unsent = h.unsent;
      answered = h.answered;
    }
