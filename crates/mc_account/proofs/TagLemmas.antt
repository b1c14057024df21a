-- A tag is of one command: it is once in what was taken, and among the commands to one place alone.
use Rattle.std.proofs.Common.{◌≡◌, ◌≢◌, ℕ, suc, ◌+◌, ◌<◌, ◌≤◌, ◌==◌, Bool, true, false, ◌&&◌, not, if◌then◌else◌, List, [], ◌∷◌, ◌++◌, length, map, refl, ap, arith}
use Rattle.std.specs.Prelude.{All}
use Rattle.std.specs.List.{list_all}
use Rattle.std.proofs.lemmas.Bool.{and_from, and_left, and_parts, and_right, eqb-true}
use Rattle.std.proofs.lemmas.Bool.Decides.{nat_tests}
use Rattle.std.proofs.lemmas.List.Elements.{All-head, All-tail}
use Rattle.mc_route.specs.Routes.{route_of_taken}
use Rattle.mc_route.specs.declared.outcomes.Outcome.{Outcome}
use Rattle.mc_route.specs.declared.routes.Routed.{Routed}
use Rattle.mc_link.specs.declared.turns.Tag.{Tag}
use Rattle.mc_proxy.specs.Emits.{is_noted}
use Rattle.mc_proxy.specs.Sending.{tag_of}
use Rattle.mc_account.specs.Orders.{TakenRequest, Order, Tagged, AreInOrder, IsSized, commands_from, commands_in, commands_to, entries_of, is_complete, numbers_from, outcomes_from, outcomes_in, outcomes_to, owns}
use Rattle.mc_account.proofs.OpenSessions.{own_number, other_number}
use Rattle.mc_account.proofs.OrderLemmas.{lengths_in}

-- 1 if a test holds, and else 0
abbrev pub weight : Bool → ℕ
weight true = 1
weight false = 0

-- whether two tags are of the same command
abbrev pub same_tag : Tag → Tag → Bool
same_tag t u = ((t.session == u.session) && (t.request == u.request)) && (t.atom == u.atom)

pub same_tag_self : (t : Tag) → same_tag t t ≡ true
same_tag_self t =
    and_from ((t.session == t.session) && (t.request == t.request)) (t.atom == t.atom)
    (and_from (t.session == t.session) (t.request == t.request) (own_number t.session) (own_number t.request)) (own_number t.atom)

-- how often a tag is among commands
abbrev pub count : Tag → List Tagged → ℕ
count tag [] = 0
count tag (c ∷ cs) = weight (same_tag c.1 tag) + count tag cs

pub count-append : (tag : Tag) (cs ds : List Tagged) → count tag (cs ++ ds) ≡ count tag cs + count tag ds
count-append tag [] ds = omega arith
count-append tag (c ∷ cs) ds = omega (arith, count-append tag cs ds)

-- the commands of a request after the one that a tag is of
pub count_past : (tag : Tag) (place session request at : ℕ) (commands : List Routed) → tag.atom < at → count tag (commands_from place session request at commands) ≡ 0
count_past tag place session request at [] h = refl
count_past tag place session request at (command ∷ commands) h =
    let again = count_past tag place session request (suc at) commands (omega (arith, h)) in
    let apart : same_tag (tag_of session request at) tag ≡ false =
    and_right ((session == tag.session) && (request == tag.request)) (at == tag.atom) (other_number at tag.atom (λ e. omega (arith, h, e))) in
    (elim (command.server == place) as (λ v.
    count tag (if v then (command.atom, tag_of session request at) ∷ commands_from place session request (suc at) commands else commands_from place session request (suc at) commands) ≡ 0) [
      | true ↦ rw apart (omega (arith, again))
      | false ↦ again
    ])

-- the commands of another request
pub count_apart : (tag : Tag) (place session request at : ℕ) (commands : List Routed) → ((session == tag.session) && (request == tag.request)) ≡ false
    → count tag (commands_from place session request at commands) ≡ 0
count_apart tag place session request at [] h = refl
count_apart tag place session request at (command ∷ commands) h =
    let again = count_apart tag place session request (suc at) commands h in
    let apart : same_tag (tag_of session request at) tag ≡ false = and_left ((session == tag.session) && (request == tag.request)) (at == tag.atom) h in
    (elim (command.server == place) as (λ v.
    count tag (if v then (command.atom, tag_of session request at) ∷ commands_from place session request (suc at) commands else commands_from place session request (suc at) commands) ≡ 0) [
      | true ↦ rw apart (omega (arith, again))
      | false ↦ again
    ])

-- the command of a number, and those after it
count_with_next : (tag : Tag) (place other session request at : ℕ) (commands : List Routed)
    → count tag (commands_from place session request (suc at) commands) + count tag (commands_from other session request (suc at) commands) ≤ 1
    → weight (same_tag (tag_of session request at) tag)
    + (count tag (commands_from place session request (suc at) commands) + count tag (commands_from other session request (suc at) commands)) ≤ 1
count_with_next tag place other session request at commands again =
    (elim (same_tag (tag_of session request at) tag) as (λ v. same_tag (tag_of session request at) tag ≡ v
    → weight v + (count tag (commands_from place session request (suc at) commands) + count tag (commands_from other session request (suc at) commands)) ≤ 1) [
      | true ↦ λ is.
          let here : at ≡ tag.atom = eqb-true at tag.atom (and_parts ((session == tag.session) && (request == tag.request)) (at == tag.atom) is).1 in
          let mine = count_past tag place session request (suc at) commands (omega (arith, here)) in
          let others = count_past tag other session request (suc at) commands (omega (arith, here)) in
          omega (arith, mine, others)
      | false ↦ λ is. omega (arith, again)
    ]) refl

-- the commands of a request to two places
count_once : (tag : Tag) (place other session request at : ℕ) (commands : List Routed) → place ≢ other
    → count tag (commands_from place session request at commands) + count tag (commands_from other session request at commands) ≤ 1
count_once tag place other session request at [] differ = omega arith
count_once tag place other session request at (command ∷ commands) differ =
    let again = count_once tag place other session request (suc at) commands differ in
    let next = count_with_next tag place other session request at commands again in
    (elim (command.server == place) as (λ v. command.server == place ≡ v
    → count tag (if v then (command.atom, tag_of session request at) ∷ commands_from place session request (suc at) commands else commands_from place session request (suc at) commands)
    + count tag (if command.server == other then (command.atom, tag_of session request at) ∷ commands_from other session request (suc at) commands else commands_from other session request (suc at) commands) ≤ 1) [
      | true ↦ λ is. let another : (command.server == other) ≡ false = grind (arith, nat_tests, differ, is) in rw another (omega (arith, next))
      | false ↦ λ is. (elim (command.server == other) as (λ v.
          count tag (commands_from place session request (suc at) commands)
          + count tag (if v then (command.atom, tag_of session request at) ∷ commands_from other session request (suc at) commands else commands_from other session request (suc at) commands) ≤ 1) [
            | true ↦ omega (arith, next)
            | false ↦ again
          ])
    ]) refl

pub count_in_both : (tag : Tag) (place other : ℕ) (e : TakenRequest) → place ≢ other → count tag (commands_in place e) + count tag (commands_in other e) ≤ weight (owns tag e)
count_in_both tag place other e differ =
    (elim (owns tag e) as (λ v. owns tag e ≡ v → count tag (commands_in place e) + count tag (commands_in other e) ≤ weight v) [
      | true ↦ λ is. count_once tag place other e.session e.request 0 (route_of_taken e.ring e.what) differ
      | false ↦ λ is.
          let mine = count_apart tag place e.session e.request 0 (route_of_taken e.ring e.what) is in
          let others = count_apart tag other e.session e.request 0 (route_of_taken e.ring e.what) is in
          omega (arith, mine, others)
    ]) refl

pub count_in : (tag : Tag) (place : ℕ) (e : TakenRequest) → count tag (commands_in place e) ≤ weight (owns tag e)
count_in tag place e = omega (arith, count_in_both tag place (suc place) e (λ same. omega (arith, same)))

-- how many entries have the command of a tag
abbrev pub owners : Tag → Order → ℕ
owners tag [] = 0
owners tag (e ∷ es) = weight (owns tag e) + owners tag es

pub owners-append : (tag : Tag) (es fs : Order) → owners tag (es ++ fs) ≡ owners tag es + owners tag fs
owners-append tag [] fs = omega arith
owners-append tag (e ∷ es) fs = omega (arith, owners-append tag es fs)

-- the commands of an order to two places
pub count_to_both : (tag : Tag) (place other : ℕ) (es : Order) → place ≢ other → count tag (commands_to place es) + count tag (commands_to other es) ≤ owners tag es
count_to_both tag place other [] differ = omega arith
count_to_both tag place other (e ∷ es) differ =
    omega (
      arith,
      count-append tag (commands_in place e) (commands_to place es),
      count-append tag (commands_in other e) (commands_to other es),
      count_in_both tag place other e differ,
      count_to_both tag place other es differ,
    )

pub count_to : (tag : Tag) (place : ℕ) (es : Order) → count tag (commands_to place es) ≤ owners tag es
count_to tag place es = omega (arith, count_to_both tag place (suc place) es (λ same. omega (arith, same)))

-- only entries of the tag's session have the tag
pub owners_of : (tag : Tag) (es : Order) → owners tag (entries_of tag.session es) ≡ owners tag es
owners_of tag [] = refl
owners_of tag (e ∷ es) =
    let again = owners_of tag es in
    (elim (e.session == tag.session) as (λ v. e.session == tag.session ≡ v
    → owners tag (if v then e ∷ entries_of tag.session es else entries_of tag.session es) ≡ weight (owns tag e) + owners tag es) [
      | true ↦ λ is. omega (arith, again)
      | false ↦ λ is. let apart : owns tag e ≡ false = and_left (e.session == tag.session) (e.request == tag.request) is in rw apart (omega (arith, again))
    ]) refl

-- if requests are numbered, those with later numbers do not have the tag, and one has it at most
pub owners_later : (tag : Tag) (at : ℕ) (es : Order) → map (λ (e : TakenRequest). e.request) es ≡ numbers_from at es → tag.request < at → owners tag es ≡ 0
owners_later tag at [] numbered h = refl
owners_later tag at (e ∷ es) numbered h =
    let here : e.request ≡ at = cc in
    let after : map (λ (x : TakenRequest). x.request) es ≡ numbers_from (suc at) es = cc in
    let apart : owns tag e ≡ false = and_right (e.session == tag.session) (e.request == tag.request) (other_number e.request tag.request (λ same. omega (arith, here, same, h))) in
    rw apart (omega (arith, owners_later tag (suc at) es after (omega (arith, h))))

owners_once : (tag : Tag) (at : ℕ) (es : Order) → map (λ (e : TakenRequest). e.request) es ≡ numbers_from at es → owners tag es ≤ 1
owners_once tag at [] numbered = omega arith
owners_once tag at (e ∷ es) numbered =
    let here : e.request ≡ at = cc in
    let after : map (λ (x : TakenRequest). x.request) es ≡ numbers_from (suc at) es = cc in
    let again = owners_once tag (suc at) es after in
    (elim (owns tag e) as (λ v. owns tag e ≡ v → weight v + owners tag es ≤ 1) [
      | true ↦ λ is.
          let same : e.request ≡ tag.request = eqb-true e.request tag.request (and_parts (e.session == tag.session) (e.request == tag.request) is).1 in
          omega (arith, owners_later tag (suc at) es after (omega (arith, here, same)))
      | false ↦ λ is. omega (arith, again)
    ]) refl

pub tag_once : (tag : Tag) (es : Order) → AreInOrder (entries_of tag.session es) → owners tag es ≤ 1
tag_once tag es numbered = omega (arith, owners_of tag es, owners_once tag 0 (entries_of tag.session es) numbered)

-- how many entries have the command of a tag and are not complete
abbrev pub incomplete_owners : Tag → Order → ℕ
incomplete_owners tag [] = 0
incomplete_owners tag (e ∷ es) = weight (not (is_complete e) && owns tag e) + incomplete_owners tag es

pub incomplete-append : (tag : Tag) (es fs : Order) → incomplete_owners tag (es ++ fs) ≡ incomplete_owners tag es + incomplete_owners tag fs
incomplete-append tag [] fs = omega arith
incomplete-append tag (e ∷ es) fs = omega (arith, incomplete-append tag es fs)

pub incomplete_of : (tag : Tag) (es : Order) → incomplete_owners tag (entries_of tag.session es) ≡ incomplete_owners tag es
incomplete_of tag [] = refl
incomplete_of tag (e ∷ es) =
    let again = incomplete_of tag es in
    (elim (e.session == tag.session) as (λ v. e.session == tag.session ≡ v
    → incomplete_owners tag (if v then e ∷ entries_of tag.session es else entries_of tag.session es) ≡ weight (not (is_complete e) && owns tag e) + incomplete_owners tag es) [
      | true ↦ λ is. omega (arith, again)
      | false ↦ λ is.
          let apart : (not (is_complete e) && owns tag e) ≡ false =
          and_right (not (is_complete e)) (owns tag e) (and_left (e.session == tag.session) (e.request == tag.request) is) in
          rw apart (omega (arith, again))
    ]) refl

incomplete_weight : (complete own : Bool) → weight (not complete && own) ≤ weight own
incomplete_weight true own = omega arith
incomplete_weight false own = omega arith

pub incomplete_owners-le : (tag : Tag) (es : Order) → incomplete_owners tag es ≤ owners tag es
incomplete_owners-le tag [] = omega arith
incomplete_owners-le tag (e ∷ es) = omega (arith, incomplete_weight (is_complete e) (owns tag e), incomplete_owners-le tag es)

pub incomplete_none : (tag : Tag) (es : Order) → list_all is_complete es ≡ true → incomplete_owners tag es ≡ 0
incomplete_none tag [] h = refl
incomplete_none tag (e ∷ es) h =
    let parts = and_parts (is_complete e) (list_all is_complete es) h in
    let apart : (not (is_complete e) && owns tag e) ≡ false = and_left (not (is_complete e)) (owns tag e) (ap not parts.0) in
    rw apart (omega (arith, incomplete_none tag es parts.1))

-- how often a tag is among commands with unknown outcomes
abbrev pub awaited : Tag → List Tagged → List Outcome → ℕ
awaited tag [] xs = 0
awaited tag (c ∷ cs) [] = 0
awaited tag (c ∷ cs) (x ∷ xs) = weight (not (is_noted x) && same_tag c.1 tag) + awaited tag cs xs

pub awaited-append : (tag : Tag) (cs ds : List Tagged) (xs ys : List Outcome) → length cs ≡ length xs
    → awaited tag (cs ++ ds) (xs ++ ys) ≡ awaited tag cs xs + awaited tag ds ys
awaited-append tag [] ds [] ys h = omega arith
awaited-append tag [] ds (x ∷ xs) ys h = absurd cc
awaited-append tag (c ∷ cs) ds [] ys h = absurd cc
awaited-append tag (c ∷ cs) ds (x ∷ xs) ys h = omega (arith, awaited-append tag cs ds xs ys (cc))

awaited-le : (tag : Tag) (cs : List Tagged) (xs : List Outcome) → awaited tag cs xs ≤ count tag cs
awaited-le tag [] xs = omega arith
awaited-le tag (c ∷ cs) [] = omega arith
awaited-le tag (c ∷ cs) (x ∷ xs) = omega (arith, incomplete_weight (is_noted x) (same_tag c.1 tag), awaited-le tag cs xs)

awaited_none : (tag : Tag) (cs : List Tagged) (xs : List Outcome) → list_all is_noted xs ≡ true → awaited tag cs xs ≡ 0
awaited_none tag [] xs h = refl
awaited_none tag (c ∷ cs) [] h = refl
awaited_none tag (c ∷ cs) (x ∷ xs) h =
    let parts = and_parts (is_noted x) (list_all is_noted xs) h in
    let apart : (not (is_noted x) && same_tag c.1 tag) ≡ false = and_left (not (is_noted x)) (same_tag c.1 tag) (ap not parts.0) in
    rw apart (omega (arith, awaited_none tag cs xs parts.1))

-- outcomes that are known of all commands of a request are known of those to a place
pub told_from : (place : ℕ) (commands : List Routed) (xs : List Outcome) → list_all is_noted xs ≡ true → list_all is_noted (outcomes_from place commands xs) ≡ true
told_from place [] xs h = refl
told_from place (command ∷ commands) [] h = refl
told_from place (command ∷ commands) (x ∷ xs) h =
    let parts = and_parts (is_noted x) (list_all is_noted xs) h in
    let again = told_from place commands xs parts.1 in
    (elim (command.server == place) as (λ v. list_all is_noted (if v then x ∷ outcomes_from place commands xs else outcomes_from place commands xs) ≡ true) [
      | true ↦ and_from (is_noted x) (list_all is_noted (outcomes_from place commands xs)) parts.0 again
      | false ↦ again
    ])

-- if a command is pending, its entry is not complete
awaited_in : (tag : Tag) (place : ℕ) (e : TakenRequest) → awaited tag (commands_in place e) (outcomes_in place e) ≤ weight (not (is_complete e) && owns tag e)
awaited_in tag place e =
    (elim (is_complete e) as (λ v. is_complete e ≡ v → awaited tag (commands_in place e) (outcomes_in place e) ≤ weight (not v && owns tag e)) [
      | true ↦ λ is. omega (arith, awaited_none tag (commands_in place e) (outcomes_in place e) (told_from place (route_of_taken e.ring e.what) e.outcomes is))
      | false ↦ λ is. omega (arith, awaited-le tag (commands_in place e) (outcomes_in place e), count_in tag place e)
    ]) refl

pub awaited_to : (tag : Tag) (place : ℕ) (es : Order) → All IsSized es → awaited tag (commands_to place es) (outcomes_to place es) ≤ incomplete_owners tag es
awaited_to tag place [] sized = omega arith
awaited_to tag place (e ∷ es) sized =
    let here = lengths_in place e (All-head IsSized e es sized) in
    omega (
      arith,
      awaited-append tag (commands_in place e) (commands_to place es) (outcomes_in place e) (outcomes_to place es) here,
      awaited_in tag place e,
      awaited_to tag place es (All-tail IsSized e es sized),
    )
