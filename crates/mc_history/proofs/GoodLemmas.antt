-- The commands that a proxy sends can be spelled, since a client's text can say nothing else.
use Rattle.std.proofs.Common.{◌≡◌, ◌∙◌, ℕ, suc, ◌<◌, ◌==◌, Bool, true, false, if◌then◌else◌, List, [], ◌∷◌, ◌++◌, refl, sym, ap, append-nil}
use Rattle.std.specs.Prelude.{All, ℤ, Option}
use Rattle.std.specs.List.{list_all}
use Rattle.std.proofs.lemmas.Bool.{and_from, and_parts}
use Rattle.mc_request.specs.Atoms.{gets_of}
use Rattle.mc_request.specs.Requests.{requests_of}
use Rattle.mc_request.specs.declared.parts.Atom.{Atom}
use Rattle.mc_request.specs.declared.parts.Atom.TheVariants as atoms
use Rattle.mc_request.specs.declared.parts.Request.TheVariants as requests
use Rattle.mc_request.specs.declared.parts.Parsed.{Parsed}
use Rattle.mc_request.specs.declared.parts.Parsed.TheVariants.{Whole, Faulty}
use Rattle.mc_request.specs.declared.parts.Update.TheVariants.{Store, Touch, Delete, Count, FlushAll}
use Rattle.mc_request_reader.specs.Reader.{rest_of}
use Rattle.mc_request_reader.specs.Peeks.{IsFirst}
use Rattle.mc_codec.specs.Spellings.{can_be_spelled, is_good_atom}
use Rattle.mc_codec.proofs.SayLemmas.{requests_can_be_spelled}
use Rattle.mc_ring.specs.Rings.{RingState}
use Rattle.mc_route.specs.Routes.{route_of_gets, route_of_taken, to_each}
use Rattle.mc_route.specs.declared.routes.Routed.{Routed}
use Rattle.mc_proxy.specs.SessionState.{SessionState}
use Rattle.mc_account.specs.Orders.{Order, TakenRequest, commands_from, commands_in, taken_of}
use Rattle.mc_account.specs.Holds.{SessionHolds}
use Rattle.mc_account.proofs.OrderLemmas.{passes_parts}
use Rattle.mc_history.specs.Generations.{is_good}

abbrev is_good_routed : Routed → Bool
is_good_routed routed = is_good_atom routed.atom

good_gets : (ring : RingState) (exptime : Option ℤ) (with_cas : Bool) (keys : List (List ℕ)) → list_all is_good_atom (gets_of exptime with_cas keys) ≡ true
    → list_all is_good_routed (route_of_gets ring exptime with_cas keys) ≡ true
good_gets ring exptime with_cas [] h = refl
good_gets ring exptime with_cas (key ∷ keys) h =
    let both = and_parts (is_good_atom (atoms.Get key exptime with_cas)) (list_all is_good_atom (gets_of exptime with_cas keys)) h in
    and_from (is_good_atom (atoms.Get key exptime with_cas)) (list_all is_good_routed (route_of_gets ring exptime with_cas keys)) both.0 (good_gets ring exptime with_cas keys both.1)

good_each : (place : ℕ) (servers : List (List ℕ)) (atom : Atom (List ℕ)) → is_good_atom atom ≡ true → list_all is_good_routed (to_each place servers atom) ≡ true
good_each place [] atom h = refl
good_each place (server ∷ servers) atom h =
    and_from (is_good_atom atom) (list_all is_good_routed (to_each (suc place) servers atom)) h (good_each (suc place) servers atom h)

-- a request that can be spelled is sent in commands that can be
pub good_routes : (ring : RingState) (what : Parsed) → can_be_spelled what ≡ true → list_all is_good_routed (route_of_taken ring what) ≡ true
good_routes ring (Whole (requests.Get keys exptime with_cas)) h = good_gets ring exptime with_cas keys h
good_routes ring (Whole (requests.Update (Store mode compare key flags exptime block) noreply)) h = h
good_routes ring (Whole (requests.Update (Touch key exptime) noreply)) h = h
good_routes ring (Whole (requests.Update (Delete key compare invalidate) noreply)) h = h
good_routes ring (Whole (requests.Update (Count key counting) noreply)) h = h
good_routes ring (Whole (requests.Update (FlushAll delay) noreply)) h =
    good_each 0 ring.servers (atoms.Update (FlushAll delay)) (and_parts (is_good_atom (atoms.Update (FlushAll delay))) true h).0
good_routes ring (Whole (requests.Meta command form)) h = h
good_routes ring (Whole requests.MetaNoop) h = refl
good_routes ring (Whole requests.Version) h = refl
good_routes ring (Whole requests.Quit) h = refl
good_routes ring (Faulty fault) h = refl

good_from : (place session request at : ℕ) (commands : List Routed) → list_all is_good_routed commands ≡ true → list_all is_good (commands_from place session request at commands) ≡ true
good_from place session request at [] h = refl
good_from place session request at (c ∷ cs) h =
    let both = and_parts (is_good_routed c) (list_all is_good_routed cs) h in
    let again = good_from place session request (suc at) cs both.1 in
    (elim (c.server == place) as (λ v. list_all is_good (if v then (c.atom, record { session = session; request = request; atom = at }) ∷ commands_from place session request (suc at) cs
    else commands_from place session request (suc at) cs) ≡ true) [
      | true ↦ and_from (is_good_atom c.atom) (list_all is_good (commands_from place session request (suc at) cs)) both.0 again
      | false ↦ again
    ])

pub good_in : (place : ℕ) (e : TakenRequest) → can_be_spelled e.what ≡ true → list_all is_good (commands_in place e) ≡ true
good_in place e h = good_from place e.session e.request 0 (route_of_taken e.ring e.what) (good_routes e.ring e.what h)

-- what a turn takes of a session can be spelled
pub taken_is_good : (number : ℕ) (order : Order) (text sent : List ℕ) (before after : SessionState) (what : Parsed) → All (λ b. b < 256) text
    → SessionHolds number order text sent before → IsFirst before.reader what after.reader → can_be_spelled what ≡ true
taken_is_good number order text sent before after what bytes holds first =
    let all : list_all can_be_spelled (taken_of number order ++ (what ∷ rest_of after.reader [])) ≡ true =
    ap (λ (ts : List Parsed). list_all can_be_spelled (taken_of number order ++ ts)) (sym (first.rest []))
    ∙ ap (λ (ts : List Parsed). list_all can_be_spelled ts) (holds.rest [] ∙ ap requests_of (append-nil text))
    ∙ requests_can_be_spelled text bytes in
    (and_parts (can_be_spelled what) (list_all can_be_spelled (rest_of after.reader [])) (passes_parts can_be_spelled (taken_of number order) (what ∷ rest_of after.reader []) all).1).0
