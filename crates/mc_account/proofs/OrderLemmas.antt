-- An order that goes on, its parts, and the effect of noting an outcome.
use Rattle.std.proofs.Common.{◌≡◌, ◌≢◌, ◌∙◌, ℕ, zero, suc, ◌+◌, ◌==◌, Bool, true, false, if◌then◌else◌, List, [], ◌∷◌, ◌++◌, length, map, drop, take, refl, sym, ap, append_assoc, append-nil, arith}
use Rattle.std.specs.Prelude.{All}
use Rattle.std.specs.List.{list_all}
use Rattle.std.proofs.lemmas.Bool.{and_from, and_parts}
use Rattle.std.proofs.lemmas.List.{map-append, length-append, take-append-drop}
use Rattle.std.proofs.lemmas.List.Elements.{All-nil, All-cons, All-head, All-tail}
use Rattle.std.proofs.lemmas.List.Folds.{list_all-append}
use Rattle.mc_request.specs.declared.parts.Parsed.{Parsed}
use Rattle.mc_route.specs.Routes.{route_of_taken}
use Rattle.mc_route.specs.declared.outcomes.Outcome.{Outcome}
use Rattle.mc_route.specs.declared.routes.Routed.{Routed}
use Rattle.mc_route.specs.declared.losses.Losses.{Losses}
use Rattle.mc_link.specs.declared.turns.Tag.{Tag}
use Rattle.mc_proxy.specs.Emits.{answer_by, is_noted}
use Rattle.mc_proxy.specs.SessionNoting.{set_outcome}
use Rattle.mc_account.specs.Orders.{TakenRequest, Order, Tagged, AreInOrder, IsSized, answers_of, commands_from, commands_in, commands_to, entries_of, note, note_in, numbers_from, outcomes_from, outcomes_in, outcomes_to, owns, HasChoice}
use Rattle.mc_account.proofs.OpenSessions.{own_number, other_number}

-- a test that the elements of two lists pass, the joined list passes
pub passes_joined : {X : Type 0} (test : X → Bool) (xs ys : List X) → list_all test xs ≡ true → list_all test ys ≡ true → list_all test (xs ++ ys) ≡ true
passes_joined test xs ys left right = list_all-append test xs ys ∙ and_from (list_all test xs) (list_all test ys) left right

pub passes_parts : {X : Type 0} (test : X → Bool) (xs ys : List X) → list_all test (xs ++ ys) ≡ true → (list_all test xs ≡ true) × (list_all test ys ≡ true)
passes_parts test xs ys both = and_parts (list_all test xs) (list_all test ys) (sym (list_all-append test xs ys) ∙ both)

-- the entries of a session in an order and in another one after it
pub entries-append : (n : ℕ) (es fs : Order) → entries_of n (es ++ fs) ≡ entries_of n es ++ entries_of n fs
entries-append n [] fs = refl
entries-append n (e ∷ es) fs =
    let again = entries-append n es fs in
    (elim (e.session == n) as (λ v. (if v then e ∷ entries_of n (es ++ fs) else entries_of n (es ++ fs)) ≡ (if v then e ∷ entries_of n es else entries_of n es) ++ entries_of n fs) [
      | true ↦ ap (λ (xs : Order). e ∷ xs) again
      | false ↦ again
    ])

-- one entry more, of this session or of another
pub entries_push_own : (n : ℕ) (es : Order) (e : TakenRequest) → e.session ≡ n → entries_of n (es ++ e ∷ []) ≡ entries_of n es ++ e ∷ []
entries_push_own n es e own =
    let is : (e.session == n) ≡ true = rw own (own_number n) in
    entries-append n es (e ∷ []) ∙ ap (λ (v : Bool). entries_of n es ++ (if v then e ∷ [] else [])) is

pub entries_push_other : (n : ℕ) (es : Order) (e : TakenRequest) → e.session ≢ n → entries_of n (es ++ e ∷ []) ≡ entries_of n es
entries_push_other n es e differ =
    entries-append n es (e ∷ []) ∙ ap (λ (v : Bool). entries_of n es ++ (if v then e ∷ [] else [])) (other_number e.session n differ) ∙ append-nil (entries_of n es)

-- the commands to a place, and their outcomes
pub commands-append : (place : ℕ) (es fs : Order) → commands_to place (es ++ fs) ≡ commands_to place es ++ commands_to place fs
commands-append place [] fs = refl
commands-append place (e ∷ es) fs =
    ap (λ (cs : List Tagged). commands_in place e ++ cs) (commands-append place es fs) ∙ sym (append_assoc (commands_in place e) (commands_to place es) (commands_to place fs))

pub outcomes-append : (place : ℕ) (es fs : Order) → outcomes_to place (es ++ fs) ≡ outcomes_to place es ++ outcomes_to place fs
outcomes-append place [] fs = refl
outcomes-append place (e ∷ es) fs =
    ap (λ (xs : List Outcome). outcomes_in place e ++ xs) (outcomes-append place es fs) ∙ sym (append_assoc (outcomes_in place e) (outcomes_to place es) (outcomes_to place fs))

pub commands-push : (place : ℕ) (es : Order) (e : TakenRequest) → commands_to place (es ++ e ∷ []) ≡ commands_to place es ++ commands_in place e
commands-push place es e = commands-append place es (e ∷ []) ∙ ap (λ (cs : List Tagged). commands_to place es ++ cs) (append-nil (commands_in place e))

pub outcomes-push : (place : ℕ) (es : Order) (e : TakenRequest) → outcomes_to place (es ++ e ∷ []) ≡ outcomes_to place es ++ outcomes_in place e
outcomes-push place es e = outcomes-append place es (e ∷ []) ∙ ap (λ (xs : List Outcome). outcomes_to place es ++ xs) (append-nil (outcomes_in place e))

-- all outcomes of the commands to a place are known, if those taken before and since are
pub told_whole : (place since : ℕ) (es : Order) → list_all is_noted (outcomes_to place (take since es)) ≡ true → list_all is_noted (outcomes_to place (drop since es)) ≡ true
    → list_all is_noted (outcomes_to place es) ≡ true
told_whole place since es before after =
    let both = passes_joined is_noted (outcomes_to place (take since es)) (outcomes_to place (drop since es)) before after in
    ap (λ (xs : List Outcome). list_all is_noted xs)
    (ap (λ (fs : Order). outcomes_to place fs) (sym (take-append-drop since es)) ∙ outcomes-append place (take since es) (drop since es)) ∙ both

-- the answers
pub answers-push : (es : Order) (e : TakenRequest) → answers_of (es ++ e ∷ []) ≡ answers_of es ++ answer_by e.losses e.what e.outcomes
answers-push [] e = append-nil (answer_by e.losses e.what e.outcomes)
answers-push (x ∷ xs) e =
    ap (λ (bytes : List ℕ). answer_by x.losses x.what x.outcomes ++ bytes) (answers-push xs e)
    ∙ sym (append_assoc (answer_by x.losses x.what x.outcomes) (answers_of xs) (answer_by e.losses e.what e.outcomes))

-- the numbers of a session's requests
numbers-push : (at : ℕ) (es : Order) (e : TakenRequest) → numbers_from at (es ++ e ∷ []) ≡ numbers_from at es ++ (at + length es) ∷ []
numbers-push at [] e = ap (λ (n : ℕ). n ∷ []) (omega arith)
numbers-push at (x ∷ xs) e =
    let same : suc at + length xs ≡ at + suc (length xs) = omega arith in
    ap (λ (ns : List ℕ). at ∷ ns) (numbers-push (suc at) xs e ∙ ap (λ (n : ℕ). numbers_from (suc at) xs ++ n ∷ []) same)

pub in_order_push : (es : Order) (e : TakenRequest) → AreInOrder es → e.request ≡ length es → AreInOrder (es ++ e ∷ [])
in_order_push es e before next =
    let same : e.request ≡ 0 + length es = omega (arith, next) in
    map-append (λ (x : TakenRequest). x.request) es (e ∷ [])
    ∙ ap (λ (ns : List ℕ). ns ++ e.request ∷ []) before
    ∙ ap (λ (n : ℕ). numbers_from 0 es ++ n ∷ []) same
    ∙ sym (numbers-push 0 es e)

pub numbered_after : (at : ℕ) (front back : Order) → map (λ (e : TakenRequest). e.request) (front ++ back) ≡ numbers_from at (front ++ back)
    → map (λ (e : TakenRequest). e.request) back ≡ numbers_from (at + length front) back
numbered_after at [] back h =
    let same : at + 0 ≡ at = omega arith in
    rw same h
numbered_after at (e ∷ front) back h =
    let tail : map (λ (x : TakenRequest). x.request) (front ++ back) ≡ numbers_from (suc at) (front ++ back) = cc in
    let same : suc at + length front ≡ at + suc (length front) = omega arith in
    rw (← same) (numbered_after (suc at) front back tail)

-- noting an outcome leaves all but outcomes as it was
pub note-append : (tag : Tag) (outcome : Outcome) (es fs : Order) → note tag outcome (es ++ fs) ≡ note tag outcome es ++ note tag outcome fs
note-append tag outcome es fs = map-append (note_in tag outcome) es fs

pub entries-note : (n : ℕ) (tag : Tag) (outcome : Outcome) (es : Order) → entries_of n (note tag outcome es) ≡ note tag outcome (entries_of n es)
entries-note n tag outcome [] = refl
entries-note n tag outcome (e ∷ es) =
    let again = entries-note n tag outcome es in
    (elim (e.session == n) as (λ v. (if v then note_in tag outcome e ∷ entries_of n (note tag outcome es) else entries_of n (note tag outcome es))
    ≡ note tag outcome (if v then e ∷ entries_of n es else entries_of n es)) [
      | true ↦ ap (λ (xs : Order). note_in tag outcome e ∷ xs) again
      | false ↦ again
    ])

pub taken-note : (tag : Tag) (outcome : Outcome) (es : Order) → map (λ (e : TakenRequest). e.what) (note tag outcome es) ≡ map (λ (e : TakenRequest). e.what) es
taken-note tag outcome [] = refl
taken-note tag outcome (e ∷ es) = ap (λ (ts : List Parsed). e.what ∷ ts) (taken-note tag outcome es)

pub requests-note : (tag : Tag) (outcome : Outcome) (es : Order)
    → map (λ (e : TakenRequest). e.request) (note tag outcome es) ≡ map (λ (e : TakenRequest). e.request) es
requests-note tag outcome [] = refl
requests-note tag outcome (e ∷ es) = ap (λ (ns : List ℕ). e.request ∷ ns) (requests-note tag outcome es)

numbers-note : (tag : Tag) (outcome : Outcome) (at : ℕ) (es : Order) → numbers_from at (note tag outcome es) ≡ numbers_from at es
numbers-note tag outcome at [] = refl
numbers-note tag outcome at (e ∷ es) = ap (λ (ns : List ℕ). at ∷ ns) (numbers-note tag outcome (suc at) es)

pub in_order-note : (tag : Tag) (outcome : Outcome) (es : Order) → AreInOrder es → AreInOrder (note tag outcome es)
in_order-note tag outcome es h = requests-note tag outcome es ∙ h ∙ sym (numbers-note tag outcome 0 es)

pub commands-note : (place : ℕ) (tag : Tag) (outcome : Outcome) (es : Order) → commands_to place (note tag outcome es) ≡ commands_to place es
commands-note place tag outcome [] = refl
commands-note place tag outcome (e ∷ es) = ap (λ (cs : List Tagged). commands_in place e ++ cs) (commands-note place tag outcome es)

length-set_outcome : (at : ℕ) (outcome : Outcome) (xs : List Outcome) → length (set_outcome at outcome xs) ≡ length xs
length-set_outcome at outcome [] = refl
length-set_outcome zero outcome (x ∷ xs) = refl
length-set_outcome (suc at) outcome (x ∷ xs) = ap suc (length-set_outcome at outcome xs)

sized-note_in : (tag : Tag) (outcome : Outcome) (e : TakenRequest) → IsSized e → IsSized (note_in tag outcome e)
sized-note_in tag outcome e h =
    (elim (owns tag e) as (λ v. length (if v then set_outcome tag.atom outcome e.outcomes else e.outcomes) ≡ length (route_of_taken e.ring e.what)) [
      | true ↦ length-set_outcome tag.atom outcome e.outcomes ∙ h
      | false ↦ h
    ])

pub sized-note : (tag : Tag) (outcome : Outcome) (es : Order) → All IsSized es → All IsSized (note tag outcome es)
sized-note tag outcome [] h = All-nil IsSized
sized-note tag outcome (e ∷ es) h =
    All-cons IsSized (note_in tag outcome e) (note tag outcome es) (sized-note_in tag outcome e (All-head IsSized e es h)) (sized-note tag outcome es (All-tail IsSized e es h))

-- the choice for lost commands stays if an outcome is noted
pub chosen-note : (losses : Losses) (tag : Tag) (outcome : Outcome) (es : Order) → All (HasChoice losses) es → All (HasChoice losses) (note tag outcome es)
chosen-note losses tag outcome [] h = All-nil (HasChoice losses)
chosen-note losses tag outcome (e ∷ es) h =
    All-cons (HasChoice losses) (note_in tag outcome e) (note tag outcome es) (All-head (HasChoice losses) e es h) (chosen-note losses tag outcome es (All-tail (HasChoice losses) e es h))

-- each command to a place has its outcome
pub lengths_from : (place session request at : ℕ) (commands : List Routed) (xs : List Outcome) → length xs ≡ length commands
    → length (commands_from place session request at commands) ≡ length (outcomes_from place commands xs)
lengths_from place session request at [] xs h = refl
lengths_from place session request at (command ∷ commands) [] h = absurd cc
lengths_from place session request at (command ∷ commands) (x ∷ xs) h =
    let again = lengths_from place session request (suc at) commands xs (cc) in
    (elim (command.server == place) as (λ v.
    length (if v then (command.atom, record { session = session; request = request; atom = at }) ∷ commands_from place session request (suc at) commands else commands_from place session request (suc at) commands)
    ≡ length (if v then x ∷ outcomes_from place commands xs else outcomes_from place commands xs)) [
      | true ↦ ap suc again
      | false ↦ again
    ])

pub lengths_in : (place : ℕ) (e : TakenRequest) → IsSized e → length (commands_in place e) ≡ length (outcomes_in place e)
lengths_in place e h = lengths_from place e.session e.request 0 (route_of_taken e.ring e.what) e.outcomes h

pub lengths_to : (place : ℕ) (es : Order) → All IsSized es → length (commands_to place es) ≡ length (outcomes_to place es)
lengths_to place [] h = refl
lengths_to place (e ∷ es) h =
    let here = lengths_in place e (All-head IsSized e es h) in
    let there = lengths_to place es (All-tail IsSized e es h) in
    omega (arith, length-append (commands_in place e) (commands_to place es), length-append (outcomes_in place e) (outcomes_to place es), here, there)
