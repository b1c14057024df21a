-- The outcomes of the commands of answered requests, and the answers that were emitted.
use Rattle.std.proofs.Common.{◌≡◌, ◌∙◌, ℕ, zero, suc, ◌+◌, ◌<◌, ◌==◌, ◌&&◌, Bool, true, false, if◌then◌else◌, List, [], ◌∷◌, ◌++◌, length, map, take, Option, Some, slice_get, refl, sym, ap, subst, length-take-le, arith}
use Rattle.std.specs.List.{concat, list_all}
use Rattle.std.specs.Prelude.{All}
use Rattle.std.proofs.lemmas.Bool.{false≢true}
use Rattle.std.proofs.lemmas.List.{length-map}
use Rattle.std.proofs.lemmas.List.Elements.{All-head, All-tail}
use Rattle.std.proofs.lemmas.Option.{none-some, same_Some}
use Rattle.mc_ring.specs.Rings.{RingState}
use Rattle.mc_route.specs.declared.losses.Losses.{Losses}
use Rattle.mc_route.specs.Routes.{route_of_taken}
use Rattle.mc_route.specs.declared.outcomes.Outcome.{Outcome}
use Rattle.mc_route.specs.declared.outcomes.Outcome.TheVariants.{Awaited, Lost, Reply}
use Rattle.mc_route.specs.declared.routes.Routed.{Routed}
use Rattle.mc_link.specs.declared.turns.Tag.{Tag}
use Rattle.mc_proxy.specs.Emits.{answer_by, is_noted}
use Rattle.mc_proxy.specs.Sending.{tag_of}
use Rattle.mc_cache.specs.CacheState.{CacheState}
use Rattle.mc_account.specs.Lookups.{asked_at, command_at, command_in, outcome_at, outcome_in}
use Rattle.mc_account.specs.Orders.{IsSized, Order, TakenRequest, entries_of, is_complete}
use Rattle.mc_history.specs.declared.entries.Entry.{Entry}
use Rattle.mc_world.specs.Accounts.{Accounts, answers_by}
use Rattle.mc_world.specs.Homes.{Homes}
use Rattle.mc_world.specs.Logs.{Log, number_of, puts}
use Rattle.mc_world.proofs.Log.EntryLemmas.{got_inside, got_some}
use Rattle.mc_pool_laws.specs.Outcomes.{AreAnswersFrom, HaveOutcomesBy, IsAnswerTo, HasOutcomeBy, WasAnswered}
use Rattle.mc_pool_laws.proofs.SentLemmas.{entry_taken, in_request, puts_few}

-- tests that pass for a list
both_left : (x y : Bool) → (x && y) ≡ true → x ≡ true
both_left true y h = refl
both_left false y h = h

both_right : (x y : Bool) → (x && y) ≡ true → y ≡ true
both_right true y h = h
both_right false y h = absurd (false≢true h)

passes_at : {X : Type 0} (test : X → Bool) (xs : List X) (k : ℕ) (x : X) → list_all test xs ≡ true → slice_get xs k ≡ Some x → test x ≡ true
passes_at test [] zero x all at = absurd (none-some x at)
passes_at test [] (suc k) x all at = absurd (none-some x at)
passes_at test (y ∷ ys) zero x all at = ap test (sym (same_Some y x at)) ∙ both_left (test y) (list_all test ys) all
passes_at test (y ∷ ys) (suc k) x all at = passes_at test ys k x (both_right (test y) (list_all test ys) all) at

-- elements of a front of a list, and of the list
got_taken : {X : Type 0} (n : ℕ) (xs : List X) (k : ℕ) (x : X) → k < n → slice_get xs k ≡ Some x → slice_get (take n xs) k ≡ Some x
got_taken n [] zero x inside at = absurd (none-some x at)
got_taken n [] (suc k) x inside at = absurd (none-some x at)
got_taken zero (y ∷ ys) k x inside at = absurd (omega (arith, inside))
got_taken (suc n) (y ∷ ys) zero x inside at = at
got_taken (suc n) (y ∷ ys) (suc k) x inside at = got_taken n ys k x (omega (arith, inside)) at

got_front : {X : Type 0} (n : ℕ) (xs : List X) (k : ℕ) (x : X) → slice_get (take n xs) k ≡ Some x → slice_get xs k ≡ Some x
got_front zero [] zero x at = at
got_front zero [] (suc k) x at = at
got_front (suc n) [] zero x at = at
got_front (suc n) [] (suc k) x at = at
got_front zero (y ∷ ys) zero x at = absurd (none-some x at)
got_front zero (y ∷ ys) (suc k) x at = absurd (none-some x at)
got_front (suc n) (y ∷ ys) zero x at = at
got_front (suc n) (y ∷ ys) (suc k) x at = got_front n ys k x at

-- an entry of one client has its outcomes
sized_by : (mine : Order) (x : TakenRequest) (v : Bool) (k : ℕ) (e : TakenRequest) → IsSized x → ((j : ℕ) → slice_get mine j ≡ Some e → IsSized e)
    → slice_get (if v then x ∷ mine else mine) k ≡ Some e → IsSized e
sized_by mine x true zero e own rest at = subst (λ (d : TakenRequest). IsSized d) (same_Some x e at) own
sized_by mine x true (suc k) e own rest at = rest k at
sized_by mine x false k e own rest at = rest k at

sized_at : (client : ℕ) (order : Order) (k : ℕ) (e : TakenRequest) → All IsSized order → slice_get (entries_of client order) k ≡ Some e → IsSized e
sized_at client [] zero e sized at = absurd (none-some e at)
sized_at client [] (suc k) e sized at = absurd (none-some e at)
sized_at client (x ∷ xs) k e sized at =
    sized_by (entries_of client xs) x (x.session == client) k e (All-head IsSized x xs sized)
    (λ j here. sized_at client xs j e (All-tail IsSized x xs sized) here) at

-- the outcome of a command of an answered request is known
pub known_at : (home : Homes) (losses : Losses) (ring : RingState) (opening : CacheState) (order : Order) (texts outs : ℕ → List ℕ) (histories : ℕ → List Entry) (log : Log)
    → Accounts home losses ring opening order texts outs histories log → (tag : Tag) (command : Routed) → command_at order tag ≡ Some command → WasAnswered tag log
    → (outcome : Outcome) × (outcome_at order tag ≡ Some outcome) × (is_noted outcome ≡ true)
known_at home losses ring opening order texts outs histories log h tag command at answered =
    let found = in_request (asked_at order tag.session tag.request) tag.atom command at in
    let e = found.0 in
    let sized : length e.outcomes ≡ length (route_of_taken e.ring e.what) = sized_at tag.session order tag.request e h.sized found.1 in
    let inside = got_inside (route_of_taken e.ring e.what) tag.atom command found.2 in
    let outcome = got_some e.outcomes tag.atom (omega (arith, sized, inside)) in
    let complete : is_complete e ≡ true =
    passes_at is_complete (take (number_of (puts tag.session) log) (entries_of tag.session order)) tag.request e (h.answered tag.session)
    (got_taken (number_of (puts tag.session) log) (entries_of tag.session order) tag.request e answered found.1) in
    (outcome.0, ap (λ (o : Option TakenRequest). outcome_in o tag.atom) found.1 ∙ outcome.1, passes_at is_noted e.outcomes tag.atom outcome.0 complete outcome.1)

-- the histories and the log show it
pub told_by : (home : Homes) (losses : Losses) (ring : RingState) (opening : CacheState) (order : Order) (texts outs : ℕ → List ℕ) (histories : ℕ → List Entry) (log : Log)
    → Accounts home losses ring opening order texts outs histories log → (tag : Tag) (command : Routed) (outcome : Outcome) → command_at order tag ≡ Some command
    → outcome_at order tag ≡ Some outcome → is_noted outcome ≡ true → HasOutcomeBy home histories log tag command outcome
told_by home losses ring opening order texts outs histories log h tag command (Reply reply) at became told = h.replied tag command.server command.atom reply at became
told_by home losses ring opening order texts outs histories log h tag command Lost at became told = h.lost tag command.server command.atom at became
told_by home losses ring opening order texts outs histories log h tag command Awaited at became told = absurd (false≢true told)

-- likewise for all commands of a request
are_told : (home : Homes) (histories : ℕ → List Entry) (log : Log) (client request at : ℕ) (commands : List Routed) (outcomes : List Outcome) → length outcomes ≡ length commands
    → ((k n : ℕ) (command : Routed) (outcome : Outcome) → n ≡ at + k → slice_get commands k ≡ Some command → slice_get outcomes k ≡ Some outcome
    → HasOutcomeBy home histories log (tag_of client request n) command outcome)
    → HaveOutcomesBy home histories log client request at commands outcomes
are_told home histories log client request at [] [] size each = tt
are_told home histories log client request at [] (o ∷ os) size each = absurd (omega (arith, size))
are_told home histories log client request at (c ∷ cs) [] size each = absurd (omega (arith, size))
are_told home histories log client request at (c ∷ cs) (o ∷ os) size each = (
  each zero at c o (omega arith) refl refl,
  are_told home histories log client request (suc at) cs os (omega (arith, size))
      (λ k n command outcome is there became. each (suc k) n command outcome (omega (arith, is)) there became),
)

-- the answer to a request whose outcomes are all known
pub answer_to : (home : Homes) (losses : Losses) (ring : RingState) (opening : CacheState) (order : Order) (texts outs : ℕ → List ℕ) (histories : ℕ → List Entry) (log : Log)
    → Accounts home losses ring opening order texts outs histories log → (client request : ℕ) (e : TakenRequest) → asked_at order client request ≡ Some e → is_complete e ≡ true
    → IsAnswerTo home losses ring texts histories log client request (answer_by losses e.what e.outcomes)
answer_to home losses ring opening order texts outs histories log h client request e at complete =
    record {
      what = e.what;
      ring = e.ring;
      taken = entry_taken home losses ring opening order texts outs histories log h client request e at;
      outcomes = e.outcomes;
      told =
          are_told home histories log client request 0 (route_of_taken e.ring e.what) e.outcomes (sized_at client order request e h.sized at)
          (λ k n command outcome is there became.
          let same : n ≡ k = omega (arith, is) in
          told_by home losses ring opening order texts outs histories log h (tag_of client request n) command outcome
          (ap (λ (o : Option TakenRequest). command_in o n) at ∙ ap (λ (m : ℕ). slice_get (route_of_taken e.ring e.what) m) same ∙ there)
          (ap (λ (o : Option TakenRequest). outcome_in o n) at ∙ ap (λ (m : ℕ). slice_get e.outcomes m) same ∙ became)
          (passes_at is_noted e.outcomes k outcome complete became));
      bytes = refl;
    }

-- answers, in sequence
answers_from : (home : Homes) (losses : Losses) (ring : RingState) (texts : ℕ → List ℕ) (histories : ℕ → List Entry) (log : Log) (client request : ℕ) (es : Order)
    → ((k n : ℕ) (e : TakenRequest) → n ≡ request + k → slice_get es k ≡ Some e → IsAnswerTo home losses ring texts histories log client n (answer_by losses e.what e.outcomes))
    → AreAnswersFrom home losses ring texts histories log client request (map (λ (e : TakenRequest). answer_by losses e.what e.outcomes) es)
answers_from home losses ring texts histories log client request [] each = tt
answers_from home losses ring texts histories log client request (e ∷ es) each = (
  each zero request e (omega arith) refl,
  answers_from home losses ring texts histories log client (suc request) es (λ k n d is there. each (suc k) n d (omega (arith, is)) there),
)

answers_join : (losses : Losses) (es : Order) → answers_by losses es ≡ concat (map (λ (e : TakenRequest). answer_by losses e.what e.outcomes) es)
answers_join losses [] = refl
answers_join losses (e ∷ es) = ap (λ (bytes : List ℕ). answer_by losses e.what e.outcomes ++ bytes) (answers_join losses es)

-- the bytes that were emitted to a client
pub put_answers : (home : Homes) (losses : Losses) (ring : RingState) (opening : CacheState) (order : Order) (texts outs : ℕ → List ℕ) (histories : ℕ → List Entry) (log : Log)
    → Accounts home losses ring opening order texts outs histories log → (client : ℕ)
    → (answers : List (List ℕ)) × (length answers ≡ number_of (puts client) log) × (outs client ≡ concat answers)
    × AreAnswersFrom home losses ring texts histories log client 0 answers
put_answers home losses ring opening order texts outs histories log h client =
    let n = number_of (puts client) log in
    let es = take n (entries_of client order) in (
      map (λ (e : TakenRequest). answer_by losses e.what e.outcomes) es,
      length-map es (λ (e : TakenRequest). answer_by losses e.what e.outcomes) ∙ length-take-le n (entries_of client order) (puts_few home losses ring opening order texts outs histories log h client),
      h.put client ∙ answers_join losses es,
      answers_from home losses ring texts histories log client 0 es
          (λ k m e is there.
          let same : k ≡ m = omega (arith, is) in
          answer_to home losses ring opening order texts outs histories log h client m e
          (ap (λ (j : ℕ). slice_get (entries_of client order) j) (sym same) ∙ got_front n (entries_of client order) k e there)
          (passes_at is_complete es k e (h.answered client) there)),
    )
