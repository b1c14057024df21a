-- The commands of a request, and where they go.
use Rattle.std.proofs.Common.{◌≡◌, ℕ, zero, suc, ℤ, ◌+◌, ◌<◌, ◌≤◌, Bool, false, Option, List, [], ◌∷◌, length, drop, map, refl, ap, add-one, arith}
use Rattle.std.specs.List.{All}
use Rattle.std.proofs.lemmas.List.Elements.{All-contains, All-cons}
use Rattle.mc_request.specs.Atoms.{gets_of, atoms_of}
use Rattle.mc_request.specs.declared.parts.Atom.{Atom}
use Rattle.mc_request.specs.declared.parts.Atom.TheVariants as atoms
use Rattle.mc_request.specs.declared.parts.Request.{Request}
use Rattle.mc_request.specs.declared.parts.Request.TheVariants as requests
use Rattle.mc_request.specs.declared.parts.Update.TheVariants.{Store, Touch, Delete, Count, FlushAll}
use Rattle.mc_reply.specs.Spelling.{meta_key}
use Rattle.mc_ring.specs.declared.points.Point.{Point}
use Rattle.mc_ring.specs.Owners.{owner_of}
use Rattle.mc_ring.specs.Points.{hash_of}
use Rattle.mc_ring.specs.Rings.{RingState, IsRing}
use Rattle.mc_ring.proofs.OwnerLemmas.{holder_some, holds_from, contains_from}
use Rattle.mc_route.specs.declared.routes.Routed.{Routed}
use Rattle.mc_route.specs.Routes.{owner_in, to_place, to_owner, to_each, route_of_gets, route_of, is_flush}

-- ---- a flush for each server

pub each_length : (place : ℕ) (servers : List (List ℕ)) (atom : Atom (List ℕ)) → length (to_each place servers atom) ≡ length servers
each_length place [] atom = refl
each_length place (server ∷ servers) atom = ap suc (each_length (suc place) servers atom)

-- the first of the commands for the servers to come
each_from : (servers : List (List ℕ)) (n place : ℕ) (atom : Atom (List ℕ)) → n < length servers
    → to_each place (drop n servers) atom ≡ to_place place atom ∷ to_each (suc place) (drop (suc n) servers) atom
each_from [] n place atom h = absurd (omega arith)
each_from (server ∷ servers) zero place atom h = refl
each_from (server ∷ servers) (suc n) place atom h = each_from servers n place atom (omega arith)

pub each_next : (servers : List (List ℕ)) (n : ℕ) (atom : Atom (List ℕ)) → n < length servers
    → to_each n (drop n servers) atom ≡ to_place n atom ∷ to_each (n + 1) (drop (n + 1) servers) atom
each_next servers n atom h = rw add-one (each_from servers n n atom h)

pub ruleset each_steps = (each_length, each_next)

-- ---- where a key's owner is

inside_of : (points : List Point) (hash n : ℕ) → 0 < length points → All (λ p. p.place < n) points → owner_of points hash < n
inside_of [] hash n some inside = absurd (omega arith)
inside_of (p ∷ ps) hash n some inside =
    let holder = holder_some hash p ps in
    let held = holds_from hash (p ∷ ps) holder.0 holder.1 in
    rw holder.1 (All-contains (λ q. q.place < n) (p ∷ ps) holder.0 inside (contains_from (p ∷ ps) holder.0 held.here))

pub owner_inside : (ring : RingState) (key : List ℕ) → IsRing ring → owner_in ring key < length ring.servers
owner_inside ring key good = inside_of ring.points (hash_of key) (length ring.servers) good.pointed good.inside

-- ---- each command goes to a server of the ring

to_owner_inside : (ring : RingState) (key : List ℕ) (atom : Atom (List ℕ)) → IsRing ring → All (λ routed. routed.server < length ring.servers) (to_owner ring key atom ∷ [])
to_owner_inside ring key atom good = All-cons (λ (routed : Routed). routed.server < length ring.servers) (to_owner ring key atom) [] (owner_inside ring key good) (λ i d below. absurd (omega arith))

to_each_inside : (place n : ℕ) (servers : List (List ℕ)) (atom : Atom (List ℕ)) → place + length servers ≤ n → All (λ routed. routed.server < n) (to_each place servers atom)
to_each_inside place n [] atom fits = λ i d below. absurd (omega arith)
to_each_inside place n (server ∷ servers) atom fits =
    All-cons (λ (routed : Routed). routed.server < n) (to_place place atom) (to_each (suc place) servers atom) (omega arith) (to_each_inside (suc place) n servers atom (omega arith))

gets_inside : (ring : RingState) (exptime : Option ℤ) (with_cas : Bool) (keys : List (List ℕ)) → IsRing ring
    → All (λ routed. routed.server < length ring.servers) (route_of_gets ring exptime with_cas keys)
gets_inside ring exptime with_cas [] good = λ i d below. absurd (omega arith)
gets_inside ring exptime with_cas (key ∷ keys) good = grind (arith, owner_inside, gets_inside ring exptime with_cas keys good)

pub route_inside : (ring : RingState) (request : Request) → IsRing ring → All (λ routed. routed.server < length ring.servers) (route_of ring request)
route_inside ring (requests.Get keys exptime with_cas) good = gets_inside ring exptime with_cas keys good
route_inside ring (requests.Update (Store mode compare key flags exptime block) noreply) good = to_owner_inside ring key _ good
route_inside ring (requests.Update (Touch key exptime) noreply) good = to_owner_inside ring key _ good
route_inside ring (requests.Update (Delete key compare invalidate) noreply) good = to_owner_inside ring key _ good
route_inside ring (requests.Update (Count key counting) noreply) good = to_owner_inside ring key _ good
route_inside ring (requests.Update (FlushAll delay) noreply) good = to_each_inside 0 (length ring.servers) ring.servers _ (omega arith)
route_inside ring (requests.Meta command form) good = to_owner_inside ring (meta_key command) _ good
route_inside ring requests.MetaNoop good = λ i d below. absurd (omega arith)
route_inside ring requests.Version good = λ i d below. absurd (omega arith)
route_inside ring requests.Quit good = λ i d below. absurd (omega arith)

-- ---- one server

first_place : (ring : RingState) (key : List ℕ) → IsRing ring → length ring.servers ≡ 1 → owner_in ring key ≡ 0
first_place ring key good one = omega (arith, owner_inside ring key good)

to_first : (ring : RingState) (key : List ℕ) (atom : Atom (List ℕ)) → IsRing ring → length ring.servers ≡ 1 → to_owner ring key atom ≡ to_place 0 atom
to_first ring key atom good one = ap (λ place. to_place place atom) (first_place ring key good one)

gets_to_first : (ring : RingState) (exptime : Option ℤ) (with_cas : Bool) (keys : List (List ℕ)) → IsRing ring → length ring.servers ≡ 1
    → route_of_gets ring exptime with_cas keys ≡ map (to_place 0) (gets_of exptime with_cas keys)
gets_to_first ring exptime with_cas [] good one = refl
gets_to_first ring exptime with_cas (key ∷ keys) good one =
    let first = to_first ring key (atoms.Get key exptime with_cas) good one in
    let rest = gets_to_first ring exptime with_cas keys good one in
    grind arith

one_to_first : (ring : RingState) (key : List ℕ) (atom : Atom (List ℕ)) → IsRing ring → length ring.servers ≡ 1 → to_owner ring key atom ∷ [] ≡ to_place 0 atom ∷ []
one_to_first ring key atom good one = ap (λ (routed : Routed). routed ∷ []) (to_first ring key atom good one)

each_to_first : (servers : List (List ℕ)) (atom : Atom (List ℕ)) → length servers ≡ 1 → to_each 0 servers atom ≡ to_place 0 atom ∷ []
each_to_first [] atom one = absurd (omega arith)
each_to_first (server ∷ []) atom one = refl
each_to_first (server ∷ other ∷ servers) atom one = absurd (omega arith)

pub route_to_first : (ring : RingState) (request : Request) → IsRing ring → length ring.servers ≡ 1 → route_of ring request ≡ map (to_place 0) (atoms_of request)
route_to_first ring (requests.Get keys exptime with_cas) good one = gets_to_first ring exptime with_cas keys good one
route_to_first ring (requests.Update (Store mode compare key flags exptime block) noreply) good one = one_to_first ring key _ good one
route_to_first ring (requests.Update (Touch key exptime) noreply) good one = one_to_first ring key _ good one
route_to_first ring (requests.Update (Delete key compare invalidate) noreply) good one = one_to_first ring key _ good one
route_to_first ring (requests.Update (Count key counting) noreply) good one = one_to_first ring key _ good one
route_to_first ring (requests.Update (FlushAll delay) noreply) good one = each_to_first ring.servers _ one
route_to_first ring (requests.Meta command form) good one = one_to_first ring (meta_key command) _ good one
route_to_first ring requests.MetaNoop good one = refl
route_to_first ring requests.Version good one = refl
route_to_first ring requests.Quit good one = refl

-- ---- the commands alone

gets_alone : (ring : RingState) (exptime : Option ℤ) (with_cas : Bool) (keys : List (List ℕ))
    → map (λ routed. routed.atom) (route_of_gets ring exptime with_cas keys) ≡ gets_of exptime with_cas keys
gets_alone ring exptime with_cas [] = refl
gets_alone ring exptime with_cas (key ∷ keys) = ap (λ (others : List (Atom (List ℕ))). atoms.Get key exptime with_cas ∷ others) (gets_alone ring exptime with_cas keys)

pub commands_alone : (ring : RingState) (request : Request) → is_flush request ≡ false → map (λ routed. routed.atom) (route_of ring request) ≡ atoms_of request
commands_alone ring (requests.Get keys exptime with_cas) never = gets_alone ring exptime with_cas keys
commands_alone ring (requests.Update (Store mode compare key flags exptime block) noreply) never = refl
commands_alone ring (requests.Update (Touch key exptime) noreply) never = refl
commands_alone ring (requests.Update (Delete key compare invalidate) noreply) never = refl
commands_alone ring (requests.Update (Count key counting) noreply) never = refl
commands_alone ring (requests.Update (FlushAll delay) noreply) never = absurd cc
commands_alone ring (requests.Meta command form) never = refl
commands_alone ring requests.MetaNoop never = refl
commands_alone ring requests.Version never = refl
commands_alone ring requests.Quit never = refl

pub each_alone : (place : ℕ) (servers : List (List ℕ)) (atom : Atom (List ℕ)) → map (λ routed. routed.atom) (to_each place servers atom) ≡ map (λ server. atom) servers
each_alone place [] atom = refl
each_alone place (server ∷ servers) atom = ap (λ (others : List (Atom (List ℕ))). atom ∷ others) (each_alone (suc place) servers atom)
