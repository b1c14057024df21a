-- An outcome that is noted, in the commands to a place.
use Rattle.std.proofs.Common.{◌≡◌, ◌∙◌, ℕ, zero, suc, ◌+◌, ◌==◌, Bool, true, false, ◌&&◌, if◌then◌else◌, List, [], ◌∷◌, ◌++◌, length, refl, sym, ap, ap₂, arith}
use Rattle.std.specs.Prelude.{All}
use Rattle.std.specs.List.{list_all}
use Rattle.std.proofs.lemmas.Bool.{and_from, and_parts, and_right, eq-eqb}
use Rattle.std.proofs.lemmas.List.Elements.{All-head, All-tail}
use Rattle.mc_route.specs.Routes.{route_of_taken}
use Rattle.mc_route.specs.declared.outcomes.Outcome.{Outcome}
use Rattle.mc_route.specs.declared.routes.Routed.{Routed}
use Rattle.mc_link.specs.declared.turns.Tag.{Tag}
use Rattle.mc_proxy.specs.Emits.{is_noted}
use Rattle.mc_proxy.specs.SessionNoting.{set_outcome}
use Rattle.mc_proxy.specs.Sending.{tag_of}
use Rattle.mc_account.specs.Orders.{TakenRequest, Order, Tagged, IsSized, commands_from, commands_in, commands_to, note, note_in, outcomes_from, outcomes_in, outcomes_to, owns}
use Rattle.mc_account.proofs.OpenSessions.{other_number}
use Rattle.mc_account.proofs.OrderLemmas.{lengths_from, lengths_in}
use Rattle.mc_account.proofs.TagLemmas.{count, count_apart, count_past, same_tag, same_tag_self, weight}

-- outcomes of these commands, with this one for the command of a tag
abbrev pub renoted : Tag → Outcome → List Tagged → List Outcome → List Outcome
renoted tag outcome [] xs = []
renoted tag outcome (c ∷ cs) [] = []
renoted tag outcome (c ∷ cs) (x ∷ xs) = (if same_tag c.1 tag then outcome else x) ∷ renoted tag outcome cs xs

pub renoted-append : (tag : Tag) (outcome : Outcome) (cs ds : List Tagged) (xs ys : List Outcome) → length cs ≡ length xs
    → renoted tag outcome (cs ++ ds) (xs ++ ys) ≡ renoted tag outcome cs xs ++ renoted tag outcome ds ys
renoted-append tag outcome [] ds [] ys h = refl
renoted-append tag outcome [] ds (x ∷ xs) ys h = absurd cc
renoted-append tag outcome (c ∷ cs) ds [] ys h = absurd cc
renoted-append tag outcome (c ∷ cs) ds (x ∷ xs) ys h =
    ap (λ (zs : List Outcome). (if same_tag c.1 tag then outcome else x) ∷ zs) (renoted-append tag outcome cs ds xs ys (cc))

-- if the command is not among them, nothing changes
pub renoted_absent : (tag : Tag) (outcome : Outcome) (cs : List Tagged) (xs : List Outcome) → count tag cs ≡ 0 → length cs ≡ length xs → renoted tag outcome cs xs ≡ xs
renoted_absent tag outcome [] [] none h = refl
renoted_absent tag outcome [] (x ∷ xs) none h = absurd cc
renoted_absent tag outcome (c ∷ cs) [] none h = refl
renoted_absent tag outcome (c ∷ cs) (x ∷ xs) none h =
    let again = λ (rest : count tag cs ≡ 0). renoted_absent tag outcome cs xs rest (cc) in
    (elim (same_tag c.1 tag) as (λ v. weight v + count tag cs ≡ 0 → (if v then outcome else x) ∷ renoted tag outcome cs xs ≡ x ∷ xs) [
      | true ↦ λ sum. absurd (omega (arith, sum))
      | false ↦ λ sum. ap (λ (zs : List Outcome). x ∷ zs) (again (omega (arith, sum)))
    ]) none

-- known outcomes stay known
pub renoted_told : (tag : Tag) (outcome : Outcome) (cs : List Tagged) (xs : List Outcome) → is_noted outcome ≡ true → list_all is_noted xs ≡ true
    → list_all is_noted (renoted tag outcome cs xs) ≡ true
renoted_told tag outcome [] xs known h = refl
renoted_told tag outcome (c ∷ cs) [] known h = refl
renoted_told tag outcome (c ∷ cs) (x ∷ xs) known h =
    let parts = and_parts (is_noted x) (list_all is_noted xs) h in
    let again = renoted_told tag outcome cs xs known parts.1 in
    and_from (is_noted (if same_tag c.1 tag then outcome else x)) (list_all is_noted (renoted tag outcome cs xs))
    (elim (same_tag c.1 tag) as (λ v. is_noted (if v then outcome else x) ≡ true) [ true ↦ known | false ↦ parts.0 ]) again

-- if the command is among them once, one outcome changes
pub renoted_at : (tag : Tag) (outcome : Outcome) (front back : List Tagged) (c : Tagged) (xs ys : List Outcome) (x : Outcome)
    → c.1 ≡ tag → length front ≡ length xs → length back ≡ length ys → count tag front ≡ 0 → count tag back ≡ 0
    → renoted tag outcome (front ++ c ∷ back) (xs ++ x ∷ ys) ≡ xs ++ outcome ∷ ys
renoted_at tag outcome front back c xs ys x is front_len back_len none_before none_after =
    let here : same_tag c.1 tag ≡ true = rw is (same_tag_self tag) in
    renoted-append tag outcome front (c ∷ back) xs (x ∷ ys) front_len
    ∙ ap₂ (λ (before after : List Outcome). before ++ after) (renoted_absent tag outcome front xs none_before front_len)
    (ap₂ (λ (v : Bool) (after : List Outcome). (if v then outcome else x) ∷ after) here (renoted_absent tag outcome back ys none_after back_len))

-- an outcome that is noted in a request, in its commands to a place from one number on
noted_from : (tag : Tag) (outcome : Outcome) (place session request : ℕ) → ((session == tag.session) && (request == tag.request)) ≡ true
    → (at ahead : ℕ) (commands : List Routed) (xs : List Outcome) → length xs ≡ length commands → at + ahead ≡ tag.atom
    → outcomes_from place commands (set_outcome ahead outcome xs) ≡ renoted tag outcome (commands_from place session request at commands) (outcomes_from place commands xs)
noted_from tag outcome place session request own at ahead [] xs h sum = refl
noted_from tag outcome place session request own at ahead (command ∷ commands) [] h sum = absurd cc
noted_from tag outcome place session request own at zero (command ∷ commands) (x ∷ xs) h sum =
    let here : same_tag (tag_of session request at) tag ≡ true =
    and_from ((session == tag.session) && (request == tag.request)) (at == tag.atom) own (eq-eqb at tag.atom (omega (arith, sum))) in
    let rest : renoted tag outcome (commands_from place session request (suc at) commands) (outcomes_from place commands xs) ≡ outcomes_from place commands xs =
    renoted_absent tag outcome (commands_from place session request (suc at) commands) (outcomes_from place commands xs)
    (count_past tag place session request (suc at) commands (omega (arith, sum))) (lengths_from place session request (suc at) commands xs (cc)) in
    (elim (command.server == place) as (λ v. (if v then outcome ∷ outcomes_from place commands xs else outcomes_from place commands xs)
    ≡ renoted tag outcome (if v then (command.atom, tag_of session request at) ∷ commands_from place session request (suc at) commands else commands_from place session request (suc at) commands)
    (if v then x ∷ outcomes_from place commands xs else outcomes_from place commands xs)) [
      | true ↦ sym (ap₂ (λ (v : Bool) (zs : List Outcome). (if v then outcome else x) ∷ zs) here rest)
      | false ↦ sym rest
    ])
noted_from tag outcome place session request own at (suc ahead) (command ∷ commands) (x ∷ xs) h sum =
    let apart : same_tag (tag_of session request at) tag ≡ false =
    and_right ((session == tag.session) && (request == tag.request)) (at == tag.atom) (other_number at tag.atom (λ same. omega (arith, sum, same))) in
    let again = noted_from tag outcome place session request own (suc at) ahead commands xs (cc) (omega (arith, sum)) in
    (elim (command.server == place) as (λ v.
    (if v then x ∷ outcomes_from place commands (set_outcome ahead outcome xs) else outcomes_from place commands (set_outcome ahead outcome xs))
    ≡ renoted tag outcome (if v then (command.atom, tag_of session request at) ∷ commands_from place session request (suc at) commands else commands_from place session request (suc at) commands)
    (if v then x ∷ outcomes_from place commands xs else outcomes_from place commands xs)) [
      | true ↦ ap (λ (zs : List Outcome). x ∷ zs) again
          ∙ ap (λ (v : Bool). (if v then outcome else x) ∷ renoted tag outcome (commands_from place session request (suc at) commands) (outcomes_from place commands xs)) (sym apart)
      | false ↦ again
    ])

-- likewise in an entry
noted_in_entry : (tag : Tag) (outcome : Outcome) (place : ℕ) (e : TakenRequest) → IsSized e → outcomes_in place (note_in tag outcome e) ≡ renoted tag outcome (commands_in place e) (outcomes_in place e)
noted_in_entry tag outcome place e sized =
    (elim (owns tag e) as (λ v. owns tag e ≡ v
    → outcomes_from place (route_of_taken e.ring e.what) (if v then set_outcome tag.atom outcome e.outcomes else e.outcomes) ≡ renoted tag outcome (commands_in place e) (outcomes_in place e)) [
      | true ↦ λ is. noted_from tag outcome place e.session e.request is 0 tag.atom (route_of_taken e.ring e.what) e.outcomes sized (omega arith)
      | false ↦ λ is. sym (renoted_absent tag outcome (commands_in place e) (outcomes_in place e)
          (count_apart tag place e.session e.request 0 (route_of_taken e.ring e.what) is) (lengths_in place e sized))
    ]) refl

-- likewise in an order
pub noted_to : (tag : Tag) (outcome : Outcome) (place : ℕ) (es : Order) → All IsSized es → outcomes_to place (note tag outcome es) ≡ renoted tag outcome (commands_to place es) (outcomes_to place es)
noted_to tag outcome place [] sized = refl
noted_to tag outcome place (e ∷ es) sized =
    let here = All-head IsSized e es sized in
    ap₂ (λ (before after : List Outcome). before ++ after) (noted_in_entry tag outcome place e here) (noted_to tag outcome place es (All-tail IsSized e es sized))
    ∙ sym (renoted-append tag outcome (commands_in place e) (commands_to place es) (outcomes_in place e) (outcomes_to place es) (lengths_in place e here))
