-- What a session was answered stays its answer as an order changes; and a pending command is not answered.
use Rattle.std.proofs.Common.{◌≡◌, ◌∙◌, ⊎_elim, ℕ, zero, suc, ◌+◌, ◌<◌, ◌≤◌, ◌==◌, true, false, List, [], ◌∷◌, ◌++◌, length, map, drop, take, Some, slice_get, refl, sym, ap, subst, append_assoc, arith}
use Rattle.std.specs.List.{list_all}
use Rattle.std.proofs.lemmas.Bool.{and_parts, and_right, cases_lt}
use Rattle.std.proofs.lemmas.Bool.Decides.{eqb_tells}
use Rattle.std.proofs.lemmas.List.{length-append, length-map, take-append-drop, take-append-le, take-map}
use Rattle.std.proofs.lemmas.Option.{none-some, same_Some}
use Rattle.mc_route.specs.declared.outcomes.Outcome.{Outcome}
use Rattle.mc_route.specs.declared.outcomes.Outcome.TheVariants.{Awaited, Lost, Reply}
use Rattle.mc_link.specs.LinkState.{Waiting}
use Rattle.mc_link.specs.declared.turns.Tag.{Tag}
use Rattle.mc_proxy.specs.Emits.{is_noted}
use Rattle.mc_proxy.specs.SessionState.{link_at}
use Rattle.mc_proxy.specs.LinkTurns.{Answers}
use Rattle.mc_proxy.specs.ProxyState.{ProxyState}
use Rattle.mc_account.specs.Answered.{AreAnswers}
use Rattle.mc_account.specs.Lanes.{Lane}
use Rattle.mc_account.specs.Lookups.{AreAwaited, outcome_at, outcome_in}
use Rattle.mc_account.specs.Orders.{AreInOrder, Order, TakenRequest, answers_of, entries_of, is_complete, note, note_all, note_in, numbers_from, owns}
use Rattle.mc_account.specs.Holds.{ProxyHolds}
use Rattle.mc_account.proofs.OpenSessions.{other_number}
use Rattle.mc_account.proofs.OrderLemmas.{entries-append, entries-note}
use Rattle.mc_account.proofs.TagLemmas.{owners, owners-append}
use Rattle.mc_account.proofs.LookupLemmas.{all_waiting_are_awaited, answered_was_awaited, numbered-note}
use Rattle.mc_account.proofs.SessionLemmas.{note_absent, owners_elsewhere}

-- of outcomes that are all known, each is
told_at : (xs : List Outcome) (k : ℕ) (x : Outcome) → list_all is_noted xs ≡ true → slice_get xs k ≡ Some x → is_noted x ≡ true
told_at [] zero x known at = absurd (none-some x at)
told_at [] (suc k) x known at = absurd (none-some x at)
told_at (y ∷ ys) zero x known at = subst (λ (z : Outcome). is_noted z ≡ true) (same_Some y x at) (and_parts (is_noted y) (list_all is_noted ys) known).0
told_at (y ∷ ys) (suc k) x known at = told_at ys k x (and_parts (is_noted y) (list_all is_noted ys) known).1 at

-- entries, the first `count` of which are complete
complete_at : (es : Order) (count k atom : ℕ) (x : Outcome) → list_all is_complete (take count es) ≡ true → k < count → outcome_in (slice_get es k) atom ≡ Some x → is_noted x ≡ true
complete_at [] count zero atom x complete below at = absurd (none-some x at)
complete_at [] count (suc k) atom x complete below at = absurd (none-some x at)
complete_at (e ∷ es) zero k atom x complete below at = absurd (omega (arith, below))
complete_at (e ∷ es) (suc count) zero atom x complete below at = told_at e.outcomes atom x (and_parts (is_complete e) (list_all is_complete (take count es)) complete).0 at
complete_at (e ∷ es) (suc count) (suc k) atom x complete below at =
    complete_at es count k atom x (and_parts (is_complete e) (list_all is_complete (take count es)) complete).1 (omega (arith, below)) at

-- a pending command is of no answered request
pub awaited_not_answered : (number : ℕ) (order : Order) (count : ℕ) (sent unsent : List ℕ) (tag : Tag) → AreAnswers number order count sent unsent
    → outcome_at order tag ≡ Some Awaited → tag.session ≡ number → count ≤ tag.request
awaited_not_answered number order count sent unsent tag h awaited own =
    let mine : outcome_in (slice_get (entries_of number order) tag.request) tag.atom ≡ Some Awaited =
    ap (λ (n : ℕ). outcome_in (slice_get (entries_of n order) tag.request) tag.atom) (sym own) ∙ awaited in
    ⊎_elim
    (λ (early : tag.request < count).
    let clash : false ≡ true = complete_at (entries_of number order) count tag.request tag.atom Awaited h.complete early mine in absurd cc)
    (λ (late : count ≤ tag.request). late)
    (cases_lt tag.request count)

-- answers depend only on the requests of an order that they answer
answers_same : (number : ℕ) (order longer : Order) (count : ℕ) (sent unsent : List ℕ) → count ≤ length (entries_of number longer)
    → take count (entries_of number longer) ≡ take count (entries_of number order)
    → AreAnswers number order count sent unsent → AreAnswers number longer count sent unsent
answers_same number order longer count sent unsent within same h = record {
  within = within;
  complete = ap (λ (es : Order). list_all is_complete es) same ∙ h.complete;
  answers = h.answers ∙ ap (λ (es : Order). answers_of es) (sym same);
}

-- a number without an answered request
pub answers_nothing : (number : ℕ) (order : Order) → AreAnswers number order 0 [] []
answers_nothing number order = record { within = omega arith; complete = refl; answers = refl }

-- bytes are consumed
pub answers_sent : (number : ℕ) (order : Order) (count : ℕ) (sent unsent : List ℕ) (bytes : ℕ) → AreAnswers number order count sent unsent
    → AreAnswers number order count (sent ++ take bytes unsent) (drop bytes unsent)
answers_sent number order count sent unsent bytes h = record {
  within = h.within;
  complete = h.complete;
  answers =
      append_assoc sent (take bytes unsent) (drop bytes unsent)
      ∙ ap (λ (more : List ℕ). sent ++ more) (take-append-drop bytes unsent) ∙ h.answers;
}

-- one entry more
pub answers_push : (number : ℕ) (order : Order) (e : TakenRequest) (count : ℕ) (sent unsent : List ℕ) → AreAnswers number order count sent unsent
    → AreAnswers number (order ++ e ∷ []) count sent unsent
answers_push number order e count sent unsent h =
    let mine : entries_of number (order ++ e ∷ []) ≡ entries_of number order ++ entries_of number (e ∷ []) = entries-append number order (e ∷ []) in
    let size : length (entries_of number (order ++ e ∷ [])) ≡ length (entries_of number order ++ entries_of number (e ∷ [])) = ap (λ (es : Order). length es) mine in
    answers_same number order (order ++ e ∷ []) count sent unsent
    (omega (arith, h.within, size, length-append (entries_of number order) (entries_of number (e ∷ []))))
    (ap (λ (es : Order). take count es) mine ∙ take-append-le count (entries_of number order) (entries_of number (e ∷ [])) h.within) h

-- if requests are numbered, those with earlier numbers do not have a tag
owners_earlier : (tag : Tag) (at count : ℕ) (es : Order) → map (λ (e : TakenRequest). e.request) es ≡ numbers_from at es → at + count ≤ tag.request → owners tag (take count es) ≡ 0
owners_earlier tag at zero es numbered h = refl
owners_earlier tag at (suc count) [] numbered h = refl
owners_earlier tag at (suc count) (e ∷ es) numbered h =
    let here : e.request ≡ at = cc in
    let after : map (λ (x : TakenRequest). x.request) es ≡ numbers_from (suc at) es = cc in
    let apart : owns tag e ≡ false = and_right (e.session == tag.session) (e.request == tag.request) (other_number e.request tag.request (λ same. omega (arith, here, same, h))) in
    rw apart (omega (arith, owners_earlier tag (suc at) count es after (omega (arith, h))))

owners_first : (tag : Tag) (count : ℕ) (es : Order) → owners tag es ≡ 0 → owners tag (take count es) ≡ 0
owners_first tag count es none =
    let whole : owners tag (take count es ++ drop count es) ≡ owners tag es = ap (λ (fs : Order). owners tag fs) (take-append-drop count es) in
    omega (arith, whole, owners-append tag (take count es) (drop count es), none)

-- an outcome is noted of a command that was pending: of no answered request
pub answers_note : (number : ℕ) (order : Order) (tag : Tag) (outcome : Outcome) (count : ℕ) (sent unsent : List ℕ) → AreInOrder (entries_of number order)
    → outcome_at order tag ≡ Some Awaited → AreAnswers number order count sent unsent → AreAnswers number (note tag outcome order) count sent unsent
answers_note number order tag outcome count sent unsent numbered awaited h =
    let mine : entries_of number (note tag outcome order) ≡ note tag outcome (entries_of number order) = entries-note number tag outcome order in
    let size : length (entries_of number (note tag outcome order)) ≡ length (note tag outcome (entries_of number order)) = ap (λ (es : Order). length es) mine in
    let within : count ≤ length (entries_of number (note tag outcome order)) = omega (arith, h.within, size, length-map (entries_of number order) (note_in tag outcome)) in
    let absent : owners tag (take count (entries_of number order)) ≡ 0 =
    ⊎_elim
    (λ own.
    let late : count ≤ tag.request = awaited_not_answered number order count sent unsent tag h awaited own.1 in
    owners_earlier tag 0 count (entries_of number order) numbered (omega (arith, late)))
    (λ other. owners_first tag count (entries_of number order) (owners_elsewhere tag number order other.1))
    (eqb_tells tag.session number) in
    answers_same number order (note tag outcome order) count sent unsent within
    (ap (λ (es : Order). take count es) mine
    ∙ take-map (note_in tag outcome) count (entries_of number order)
    ∙ note_absent tag outcome (take count (entries_of number order)) absent) h

-- outcomes are noted of commands that were pending, in sequence
pub answers_note_all : (number : ℕ) (tags : List Tag) (outcome : Outcome) (order : Order) (count : ℕ) (sent unsent : List ℕ)
    → ((n : ℕ) → AreInOrder (entries_of n order)) → AreAwaited tags outcome order → AreAnswers number order count sent unsent
    → AreAnswers number (note_all tags outcome order) count sent unsent
answers_note_all number [] outcome order count sent unsent numbered awaited h = h
answers_note_all number (tag ∷ tags) outcome order count sent unsent numbered awaited h =
    answers_note_all number tags outcome (note tag outcome order) count sent unsent (numbered-note tag outcome order numbered) awaited.1
    (answers_note number order tag outcome count sent unsent (numbered number) awaited.0 h)

-- a reply is noted
pub answers_replied : (texts sent : ℕ → List ℕ) (order : Order) (lanes : ℕ → Lane) (place : ℕ) (old new : ProxyState) → ProxyHolds texts sent order lanes old
    → (link_at old.links place).up ≡ true → (answers : Answers place old new) → (number count : ℕ) (out unsent : List ℕ) → AreAnswers number order count out unsent
    → AreAnswers number (note answers.tag (Reply answers.reply) order) count out unsent
answers_replied texts sent order lanes place old new holds up answers number count out unsent h =
    answers_note number order answers.tag (Reply answers.reply) count out unsent (holds.numbered number)
    (answered_was_awaited texts sent order lanes place old new holds up answers) h

-- a link is lost
pub answers_lost : (texts sent : ℕ → List ℕ) (order : Order) (lanes : ℕ → Lane) (place : ℕ) (old : ProxyState) → ProxyHolds texts sent order lanes old
    → (link_at old.links place).up ≡ true → (number count : ℕ) (out unsent : List ℕ) → AreAnswers number order count out unsent
    → AreAnswers number (note_all (map (λ (w : Waiting). w.1) (link_at old.links place).waiting) Lost order) count out unsent
answers_lost texts sent order lanes place old holds up number count out unsent h =
    answers_note_all number (map (λ (w : Waiting). w.1) (link_at old.links place).waiting) Lost order count out unsent holds.numbered
    (all_waiting_are_awaited texts sent order lanes old holds place up Lost refl) h
