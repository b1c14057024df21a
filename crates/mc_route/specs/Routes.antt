-- Which server gets which command of a request.
use Rattle.std.specs.Prelude.{ℕ, suc, ℤ, Bool, true, false, List, [], ◌∷◌, Option, map}
use Rattle.mc_request.specs.declared.parts.Atom.{Atom}
use Rattle.mc_request.specs.declared.parts.Atom.TheVariants as atoms
use Rattle.mc_request.specs.declared.parts.Request.{Request}
use Rattle.mc_request.specs.declared.parts.Request.TheVariants as requests
use Rattle.mc_request.specs.declared.parts.Parsed.{Parsed}
use Rattle.mc_request.specs.declared.parts.Parsed.TheVariants.{Whole, Faulty}
use Rattle.mc_request.specs.declared.parts.Update.{Update}
use Rattle.mc_request.specs.declared.parts.Update.TheVariants.{Store, Touch, Delete, Count, FlushAll}
use Rattle.mc_reply.specs.Spelling.{meta_key}
use Rattle.mc_ring.specs.Owners.{owner_of}
use Rattle.mc_ring.specs.Points.{hash_of}
use Rattle.mc_ring.specs.Rings.{RingState}
use Rattle.mc_route.specs.declared.routes.Routed.{Routed}

-- the place of the server that owns a key: source libketama, ketama_get_server
abbrev pub owner_in : RingState → List ℕ → ℕ
owner_in ring key = owner_of ring.points (hash_of key)

-- a command, to the server at a place
abbrev pub to_place : ℕ → Atom (List ℕ) → Routed
to_place place atom = record { server = place; atom = atom }

-- a command, to the owner of its key
abbrev pub to_owner : RingState → List ℕ → Atom (List ℕ) → Routed
to_owner ring key atom = to_place (owner_in ring key) atom

-- one command to each server, in their order, the first of them the server at a place
abbrev pub to_each : ℕ → List (List ℕ) → Atom (List ℕ) → List Routed
to_each place [] atom = []
to_each place (server ∷ servers) atom = to_place place atom ∷ to_each (suc place) servers atom

-- one command for each key, in order, each to the owner of its key
abbrev pub route_of_gets : RingState → Option ℤ → Bool → List (List ℕ) → List Routed
route_of_gets ring exptime with_cas keys = map (λ key. to_owner ring key (atoms.Get key exptime with_cas)) keys

-- an update goes to the owner of its key, and a flush to each server
abbrev pub route_of_update : RingState → Update (List ℕ) (List ℕ) → List Routed
route_of_update ring (Store mode compare key flags exptime block) = to_owner ring key (atoms.Update (Store mode compare key flags exptime block)) ∷ []
route_of_update ring (Touch key exptime) = to_owner ring key (atoms.Update (Touch key exptime)) ∷ []
route_of_update ring (Delete key compare invalidate) = to_owner ring key (atoms.Update (Delete key compare invalidate)) ∷ []
route_of_update ring (Count key counting) = to_owner ring key (atoms.Update (Count key counting)) ∷ []
route_of_update ring (FlushAll delay) = to_each 0 ring.servers (atoms.Update (FlushAll delay))

-- the commands of a request, each with the place of its server: one for each key, in order, to its owner; a flush to each
-- server, in their order
-- source: this project's own, over the owner of a key
abbrev pub route_of : RingState → Request → List Routed
route_of ring (requests.Get keys exptime with_cas) = route_of_gets ring exptime with_cas keys
route_of ring (requests.Update update noreply) = route_of_update ring update
route_of ring (requests.Meta command form) = to_owner ring (meta_key command) (atoms.Meta command) ∷ []
route_of ring other = []

-- the commands of what was taken: a fault has none
abbrev pub route_of_taken : RingState → Parsed → List Routed
route_of_taken ring (Whole request) = route_of ring request
route_of_taken ring (Faulty fault) = []

-- whether a request is for each server: source protocol.txt, "Other commands"
abbrev pub is_flush : Request → Bool
is_flush (requests.Update (FlushAll delay) noreply) = true
is_flush other = false
