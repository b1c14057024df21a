-- Each command goes to the owner of its key.
use Rattle.std.proofs.Common.{◌≡◌, ◌∙◌, ℕ, zero, suc, ℤ, Bool, List, [], ◌∷◌, Option, None, Some, slice_get, refl, sym, ap, subst, arith}
use Rattle.std.proofs.lemmas.Option.{none-some, same_Some}
use Rattle.mc_request.specs.declared.parts.Atom.{Atom}
use Rattle.mc_request.specs.declared.parts.Request.{Request}
use Rattle.mc_request.specs.declared.parts.Request.TheVariants as requests
use Rattle.mc_request.specs.declared.parts.Parsed.{Parsed}
use Rattle.mc_request.specs.declared.parts.Parsed.TheVariants.{Whole, Faulty}
use Rattle.mc_request.specs.declared.parts.Update.TheVariants.{Store, Touch, Delete, Count, FlushAll}
use Rattle.mc_ring.specs.Rings.{RingState}
use Rattle.mc_route.specs.Routes.{owner_in, route_of, route_of_gets, route_of_taken, to_each, to_owner}
use Rattle.mc_route.specs.declared.routes.Routed.{Routed}
use Rattle.mc_cache.specs.Step.{atom_key}

-- this holds of each element of a list
abbrev Each : {X : Type 0} → (X → Type 0) → List X → Type 0
Each {X} P xs = (k : ℕ) (x : X) → slice_get xs k ≡ Some x → P x

each-nil : {X : Type 0} (P : X → Type 0) → Each P []
each-nil P zero x at = absurd (none-some x at)
each-nil P (suc k) x at = absurd (none-some x at)

each-cons : {X : Type 0} (P : X → Type 0) (x : X) (xs : List X) → P x → Each P xs → Each P (x ∷ xs)
each-cons P x xs h hs zero y at = subst P (same_Some x y at) h
each-cons P x xs h hs (suc k) y at = hs k y at

-- a command goes to the owner of its key, if it has one
abbrev IsToOwner : RingState → Routed → Type 0
IsToOwner ring command = (key : List ℕ) → atom_key command.atom ≡ Some key → command.server ≡ owner_in ring key

one-own : (ring : RingState) (key : List ℕ) (atom : Atom (List ℕ)) → atom_key atom ≡ Some key → Each (IsToOwner ring) (to_owner ring key atom ∷ [])
one-own ring key atom is =
    each-cons (IsToOwner ring) (to_owner ring key atom) [] (λ other has. ap (owner_in ring) (same_Some key other (sym is ∙ has))) (each-nil (IsToOwner ring))

gets-own : (ring : RingState) (exptime : Option ℤ) (with_cas : Bool) (keys : List (List ℕ)) → Each (IsToOwner ring) (route_of_gets ring exptime with_cas keys)
gets-own ring exptime with_cas [] = each-nil (IsToOwner ring)
gets-own ring exptime with_cas (key ∷ keys) = grind (arith, same_Some, each-cons, gets-own ring exptime with_cas keys)

each-own : (ring : RingState) (place : ℕ) (servers : List (List ℕ)) (atom : Atom (List ℕ)) → atom_key atom ≡ None → Each (IsToOwner ring) (to_each place servers atom)
each-own ring place [] atom none = each-nil (IsToOwner ring)
each-own ring place (server ∷ servers) atom none = grind (arith, none-some, each-cons, each-own ring (suc place) servers atom none)

route-own : (ring : RingState) (request : Request) → Each (IsToOwner ring) (route_of ring request)
route-own ring (requests.Get keys exptime with_cas) = gets-own ring exptime with_cas keys
route-own ring (requests.Update (Store mode compare key flags exptime block) noreply) = one-own ring key _ refl
route-own ring (requests.Update (Touch key exptime) noreply) = one-own ring key _ refl
route-own ring (requests.Update (Delete key compare invalidate) noreply) = one-own ring key _ refl
route-own ring (requests.Update (Count key counting) noreply) = one-own ring key _ refl
route-own ring (requests.Update (FlushAll delay) noreply) = each-own ring 0 ring.servers _ refl
route-own ring (requests.Meta command form) = grind (arith, each-nil, each-cons)
route-own ring requests.MetaNoop = each-nil (IsToOwner ring)
route-own ring requests.Version = each-nil (IsToOwner ring)
route-own ring requests.Quit = each-nil (IsToOwner ring)

pub taken-own : (ring : RingState) (what : Parsed) → Each (IsToOwner ring) (route_of_taken ring what)
taken-own ring (Whole request) = route-own ring request
taken-own ring (Faulty fault) = each-nil (IsToOwner ring)
