-- What a client's text and the log show of a command, by its tag. All of it is this project's own.
use Rattle.std.specs.Prelude.{ℕ, ◌≡◌, ◌<◌, List, [], ◌∷◌, Some, slice_get}
use Rattle.mc_request.specs.declared.parts.Atom.{Atom}
use Rattle.mc_request.specs.declared.parts.Parsed.{Parsed}
use Rattle.mc_request.specs.Requests.{requests_of}
use Rattle.mc_ring.specs.Rings.{RingState}
use Rattle.mc_route.specs.Routes.{route_of_taken, to_place}
use Rattle.mc_route.specs.declared.routes.Routed.{Routed}
use Rattle.mc_link.specs.declared.turns.Tag.{Tag}
use Rattle.mc_cache.specs.CacheState.{CacheState}
use Rattle.mc_cache.specs.Step.{step_of}
use Rattle.mc_history.specs.declared.entries.Entry.{Entry}
use Rattle.mc_history.specs.Histories.{IsAnswered, tag_in}
use Rattle.mc_world.specs.Homes.{Homes}
use Rattle.mc_world.specs.Logs.{IsRingAfter, Log, before, number_of, takes}

-- a request of a client was taken: it is the one of its number in the client's text, and this was its proxy's ring when it was taken
pub record IsTaken (home : Homes) (opening : RingState) (texts : ℕ → List ℕ) (log : Log) (client request : ℕ) (what : Parsed) (ring : RingState) : Type 0 where
  pub turn : request < number_of (takes client) log
  pub sent : slice_get (requests_of (texts client)) request ≡ Some what
  pub then : IsRingAfter (home client) opening (before (takes client) request log) ring

-- a command of such a request, with the place of its server by that ring
pub record IsSent (home : Homes) (opening : RingState) (texts : ℕ → List ℕ) (log : Log) (tag : Tag) (command : Routed) : Type 0 where
  pub what : Parsed
  pub ring : RingState
  pub taken : IsTaken home opening texts log tag.session tag.request what ring
  pub routed : slice_get (route_of_taken ring what) tag.atom ≡ Some command

-- A cache replays a history: each of its entries is of a command that its client sent to this server, and its answer is the reply of
-- the cache that the entry before has left. Memory is refused only if that may be.
abbrev pub IsReplayed : Homes → RingState → (ℕ → List ℕ) → Log → ℕ → CacheState → List Entry → Type 0
IsReplayed home opening texts log place s [] = Unit {0}
IsReplayed home opening texts log place s (e ∷ es) =
    (atom : Atom (List ℕ)) × IsSent home opening texts log (tag_in e) (to_place place atom) × IsAnswered s atom e
    × IsReplayed home opening texts log place (step_of s atom e.moment e.refused).0 es
