-- Abbreviations of the worked examples.
use Rattle.std.specs.Prelude.{ℕ, List, [], ◌∷◌, codes, pos, None, false}
use Rattle.mc_text.specs.Words.{words}
use Rattle.mc_request.specs.Meanings.{meaning}
use Rattle.mc_request.specs.declared.parts.Atom.{Atom}
use Rattle.mc_request.specs.declared.parts.Atom.TheVariants as atoms
use Rattle.mc_request.specs.declared.parts.Parsed.{Parsed}
use Rattle.mc_request.specs.declared.parts.Parsed.TheVariants.{Whole, Faulty}
use Rattle.mc_request.specs.declared.parts.Update.TheVariants.{FlushAll}
use Rattle.mc_reply.specs.Examples.{taken_with}
use Rattle.mc_ring.specs.Points.{pair_at}
use Rattle.mc_ring.specs.Rings.{RingState}
use Rattle.mc_route.specs.declared.outcomes.Outcome.{Outcome}
use Rattle.mc_route.specs.declared.routes.Routed.{Routed}
use Rattle.mc_route.specs.Routes.{route_of_taken}
use Rattle.mc_route.specs.Joins.{joined_answer}
use Rattle.mc_route.specs.Losses.{joined_with}
use Rattle.mc_route.specs.declared.losses.Losses.TheVariants.{Missed}

-- the servers of a line's commands, with a data block of `x` if one follows
abbrev pub route_to : RingState → List ℕ → List Routed
route_to ring line = route_of_taken ring (taken_with (meaning (words line)))

-- the answer to a request by the outcomes of its commands; none to a fault
abbrev pub joined_in : Parsed → List Outcome → List ℕ
joined_in (Whole request) outcomes = joined_answer request outcomes
joined_in (Faulty fault) outcomes = []

-- the answer to a line by the outcomes of its commands
abbrev pub joined_to : List ℕ → List Outcome → List ℕ
joined_to line outcomes = joined_in (taken_with (meaning (words line))) outcomes

-- the answer to a request if losses count as misses; none to a fault
abbrev pub missed_in : Parsed → List Outcome → List ℕ
missed_in (Whole request) outcomes = joined_with Missed request outcomes
missed_in (Faulty fault) outcomes = []

-- the answer to a line if losses count as misses
abbrev pub missed_to : List ℕ → List Outcome → List ℕ
missed_to line outcomes = missed_in (taken_with (meaning (words line))) outcomes

-- the first server owns the keys with the hash of `abc`, the second those with the hash of `a`
abbrev pub two_servers : RingState
two_servers = record { servers = codes "h:1" ∷ codes "h:2" ∷ []; points = pair_at 0 0x98500190 ∷ pair_at 1 0xb975c10c ∷ [] }

-- three servers, the first with the only point
abbrev pub three_servers : RingState
three_servers = record { servers = codes "h:1" ∷ codes "h:2" ∷ codes "h:3" ∷ []; points = pair_at 0 0 ∷ [] }

-- a get of one key
abbrev pub get_of : List ℕ → Atom (List ℕ)
get_of key = atoms.Get key None false

-- a flush in five seconds
abbrev pub flush : Atom (List ℕ)
flush = atoms.Update (FlushAll (pos 5))
