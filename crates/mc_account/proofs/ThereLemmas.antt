-- A command that a look-up finds is among those to its place.
use Rattle.std.proofs.Common.{◌≡◌, ◌∙◌, ◌⊎◌, inl, inr, ℕ, zero, suc, ◌+◌, ◌==◌, true, false, if◌then◌else◌, List, [], ◌∷◌, ◌++◌, length, map, Option, Some, None, slice_get, refl, ap, ap₂, arith}
use Rattle.std.proofs.lemmas.Bool.{eqb-true}
use Rattle.std.proofs.lemmas.Option.{none-some, same_Some}
use Rattle.mc_request.specs.declared.parts.Atom.{Atom}
use Rattle.mc_route.specs.Routes.{route_of_taken, to_place}
use Rattle.mc_route.specs.declared.outcomes.Outcome.{Outcome}
use Rattle.mc_route.specs.declared.routes.Routed.{Routed}
use Rattle.mc_link.specs.LinkState.{Waiting}
use Rattle.mc_link.specs.declared.turns.Tag.{Tag}
use Rattle.mc_proxy.specs.Emits.{is_noted}
use Rattle.mc_proxy.specs.Sending.{tag_of}
use Rattle.mc_proxy.specs.SessionState.{link_at}
use Rattle.mc_proxy.specs.ProxyState.{ProxyState}
use Rattle.mc_account.specs.Lanes.{Lane}
use Rattle.mc_account.specs.Lookups.{IsBefore, asked_at, command_at, command_in, outcome_at}
use Rattle.mc_account.specs.Orders.{AreInOrder, Order, TakenRequest, commands_from, commands_in, commands_to, entries_of, numbers_from}
use Rattle.mc_account.specs.Holds.{ProxyHolds}
use Rattle.mc_account.proofs.OpenSessions.{own_number}
use Rattle.mc_account.proofs.RisingLemmas.{past_front, told_before_waiting}

-- an element of the first of two lists is in both joined
in_front : {X : Type 0} (xs ys : List X) (k : ℕ) (x : X) → slice_get xs k ≡ Some x → slice_get (xs ++ ys) k ≡ Some x
in_front [] ys zero x at = absurd (none-some x at)
in_front [] ys (suc k) x at = absurd (none-some x at)
in_front (y ∷ xs) ys zero x at = at
in_front (y ∷ xs) ys (suc k) x at = in_front xs ys k x at

-- an element of a list is its first, or is among the others
first_or_later : {X : Type 0} (y : X) (ys : List X) (k : ℕ) (x : X) → slice_get (y ∷ ys) k ≡ Some x → ((k ≡ 0) × (y ≡ x)) ⊎ ((j : ℕ) × (k ≡ suc j) × (slice_get ys j ≡ Some x))
first_or_later y ys zero x at = inl (refl, same_Some y x at)
first_or_later y ys (suc k) x at = inr (k, refl, at)

-- among the commands of a request, those to a place
from_there : (place session request at : ℕ) (commands : List Routed) (k number : ℕ) (atom : Atom (List ℕ)) → number ≡ at + k → slice_get commands k ≡ Some (to_place place atom)
    → (i : ℕ) × (slice_get (commands_from place session request at commands) i ≡ Some (atom, tag_of session request number))
from_there place session request at [] zero number atom is there = absurd (none-some (to_place place atom) there)
from_there place session request at [] (suc k) number atom is there = absurd (none-some (to_place place atom) there)
from_there place session request at (c ∷ cs) zero number atom is there =
    let same : c ≡ to_place place atom = same_Some c (to_place place atom) there in
    let goes : (c.server == place) ≡ true = ap (λ (r : Routed). r.server == place) same ∙ own_number place in
    let here : at ≡ number = omega (arith, is) in
    (elim (c.server == place) as (λ v. v ≡ true → (i : ℕ) × (slice_get
    (if v then (c.atom, record { session = session; request = request; atom = at }) ∷ commands_from place session request (suc at) cs else commands_from place session request (suc at) cs) i
    ≡ Some (atom, tag_of session request number))) [
      | true ↦ λ own. (0, ap₂ (λ (r : Routed) (n : ℕ). Some (r.atom, tag_of session request n)) same here)
      | false ↦ λ own. absurd cc
    ]) goes
from_there place session request at (c ∷ cs) (suc k) number atom is there =
    let again = from_there place session request (suc at) cs k number atom (omega (arith, is)) there in
    (elim (c.server == place) as (λ v. (i : ℕ) × (slice_get
    (if v then (c.atom, record { session = session; request = request; atom = at }) ∷ commands_from place session request (suc at) cs else commands_from place session request (suc at) cs) i
    ≡ Some (atom, tag_of session request number))) [
      | true ↦ (suc again.0, again.1)
      | false ↦ again
    ])

-- in an order: the request of a number of a session is this one
there_in : (place session at : ℕ) (es : Order) (e : TakenRequest) (k request number : ℕ) (atom : Atom (List ℕ)) → map (λ (x : TakenRequest). x.request) (entries_of session es) ≡ numbers_from at (entries_of session es)
    → request ≡ at + k → slice_get (entries_of session es) k ≡ Some e → slice_get (route_of_taken e.ring e.what) number ≡ Some (to_place place atom)
    → (i : ℕ) × (slice_get (commands_to place es) i ≡ Some (atom, tag_of session request number))
there_in place session at [] e zero request number atom numbered is asked there = absurd (none-some e asked)
there_in place session at [] e (suc k) request number atom numbered is asked there = absurd (none-some e asked)
there_in place session at (x ∷ xs) e k request number atom numbered is asked there =
    (elim (x.session == session) as (λ v. x.session == session ≡ v
    → map (λ (y : TakenRequest). y.request) (if v then x ∷ entries_of session xs else entries_of session xs) ≡ numbers_from at (if v then x ∷ entries_of session xs else entries_of session xs)
    → slice_get (if v then x ∷ entries_of session xs else entries_of session xs) k ≡ Some e
    → (i : ℕ) × (slice_get (commands_in place x ++ commands_to place xs) i ≡ Some (atom, tag_of session request number))) [
      | true ↦ λ own mine found.
          let here : x.request ≡ at = cc in
          let after : map (λ (y : TakenRequest). y.request) (entries_of session xs) ≡ numbers_from (suc at) (entries_of session xs) = cc in
          (elim (first_or_later x (entries_of session xs) k e found) [
            | inl h ↦
                let first : k ≡ 0 = h.0 in
                let asked_first : x.request ≡ request = omega (arith, here, is, first) in
                let whose : x.session ≡ session = eqb-true x.session session own in
                let goes : slice_get (route_of_taken x.ring x.what) number ≡ Some (to_place place atom) =
                ap (λ (y : TakenRequest). slice_get (route_of_taken y.ring y.what) number) h.1 ∙ there in
                let inside = from_there place x.session x.request 0 (route_of_taken x.ring x.what) number number atom (omega arith) goes in (
                  inside.0,
                  in_front (commands_in place x) (commands_to place xs) inside.0 (atom, tag_of session request number)
                      (inside.1 ∙ ap₂ (λ (s r : ℕ). Some (atom, tag_of s r number)) whose asked_first),
                )
            | inr h ↦
                let next : k ≡ suc h.0 = h.1 in
                let again = there_in place session (suc at) xs e h.0 request number atom after (omega (arith, is, next)) h.2 there in
                (length (commands_in place x) + again.0, past_front (commands_in place x) (commands_to place xs) again.0 (length (commands_in place x) + again.0) refl ∙ again.1)
          ])
      | false ↦ λ other mine found.
          let again = there_in place session at xs e k request number atom mine is found there in
          (length (commands_in place x) + again.0, past_front (commands_in place x) (commands_to place xs) again.0 (length (commands_in place x) + again.0) refl ∙ again.1)
    ]) refl numbered asked

asked_of : (asked : Option TakenRequest) (number : ℕ) (routed : Routed) → command_in asked number ≡ Some routed
    → (e : TakenRequest) × (asked ≡ Some e) × (slice_get (route_of_taken e.ring e.what) number ≡ Some routed)
asked_of None number routed there = absurd (none-some routed there)
asked_of (Some e) number routed there = (e, refl, there)

pub command_is_there : (place : ℕ) (order : Order) → ((number : ℕ) → AreInOrder (entries_of number order)) → (tag : Tag) (atom : Atom (List ℕ))
    → command_at order tag ≡ Some (to_place place atom) → (i : ℕ) × (slice_get (commands_to place order) i ≡ Some (atom, tag))
command_is_there place order numbered tag atom there =
    let e = asked_of (asked_at order tag.session tag.request) tag.atom (to_place place atom) there in
    there_in place tag.session 0 order e.0 tag.request tag.request tag.atom atom (numbered tag.session) (omega arith) e.1 e.2

-- for one session, a command to a place with a known outcome was asked before all pending ones on its link
pub known_before_waiting : (texts sent : ℕ → List ℕ) (order : Order) (lanes : ℕ → Lane) (now : ProxyState) → ProxyHolds texts sent order lanes now
    → (place : ℕ) → (link_at now.links place).up ≡ true
    → (tag : Tag) (atom : Atom (List ℕ)) (x : Outcome) → command_at order tag ≡ Some (to_place place atom) → outcome_at order tag ≡ Some x → is_noted x ≡ true
    → (k : ℕ) (w : Waiting) → slice_get (link_at now.links place).waiting k ≡ Some w → tag.session ≡ w.1.session → IsBefore tag w.1
known_before_waiting texts sent order lanes now h place up tag atom x there known told k w waits same =
    let i = command_is_there place order h.numbered tag atom there in
    told_before_waiting texts sent order lanes now h place up i.0 (atom, tag) x i.1 known told k w waits same
