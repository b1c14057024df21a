-- The commands that a proxy sent to a server, in the order in which it took the requests, as the clients' texts and the log show them.
-- All of it is this project's own.
use Rattle.std.specs.Prelude.{ℕ, ◌≡◌, ◌≢◌, ◌⊎◌, List, [], ◌∷◌, ◌++◌, Some, slice_get}
use Rattle.mc_request.specs.declared.parts.Parsed.{Parsed}
use Rattle.mc_request.specs.Requests.{requests_of}
use Rattle.mc_ring.specs.Rings.{RingState}
use Rattle.mc_route.specs.Routes.{route_of_taken}
use Rattle.mc_link.specs.declared.turns.Tag.{Tag}
use Rattle.mc_account.specs.Orders.{Tagged, commands_from}
use Rattle.mc_world.specs.declared.events.Event.TheVariants.{ProxyTurn}
use Rattle.mc_world.specs.Homes.{Homes, tags_through}
use Rattle.mc_world.specs.Logs.{IsRingAfter, Log, number_of, takes}
use Rattle.mc_world.specs.declared.logs.Logged.{Logged}
use Rattle.mc_world.specs.declared.logs.Logged.TheVariants.{Happened}
use Rattle.mc_history.specs.declared.entries.Entry.{Entry}
use Rattle.mc_history.specs.Named.{tags_of}

-- a turn of a client of a proxy, after what was done, takes its next request, by the proxy's ring of that moment: these of its commands go to the
-- server of a place
pub record TakesNext (proxy : ℕ) (opening : RingState) (texts : ℕ → List ℕ) (place : ℕ) (done : Log) (client : ℕ) (commands : List Tagged) : Type 0 where
  pub what : Parsed
  pub ring : RingState
  pub sent : slice_get (requests_of (texts client)) (number_of (takes client) done) ≡ Some what
  pub then : IsRingAfter proxy opening done ring
  pub routed : commands ≡ commands_from place client (number_of (takes client) done) 0 (route_of_taken ring what)

-- the commands that the next entry sends to the server: none except by a turn of the proxy
abbrev pub IsSentBy : Homes → ℕ → RingState → (ℕ → List ℕ) → ℕ → Log → Logged → List Tagged → Type 0
IsSentBy home proxy opening texts place done (Happened (ProxyTurn client)) commands =
    ((home client ≡ proxy) × TakesNext proxy opening texts place done client commands) ⊎ ((home client ≢ proxy) × (commands ≡ []))
IsSentBy home proxy opening texts place done other commands = commands ≡ []

-- the commands that all following entries send, in their order
abbrev pub AreSentBy : Homes → ℕ → RingState → (ℕ → List ℕ) → ℕ → Log → Log → List Tagged → Type 0
AreSentBy home proxy opening texts place done [] commands = commands ≡ []
AreSentBy home proxy opening texts place done (e ∷ es) commands =
    (first : List Tagged) × (later : List Tagged) × IsSentBy home proxy opening texts place done e first
    × AreSentBy home proxy opening texts place (done ++ e ∷ []) es later × (commands ≡ first ++ later)

-- A history follows a proxy: its entries of that proxy's clients are of the first of the commands that the log sent to this server, in their order.
abbrev pub FollowsProxy : Homes → ℕ → RingState → (ℕ → List ℕ) → Log → ℕ → List Entry → Type 0
FollowsProxy home proxy opening texts log place history =
    (sent : List Tagged) × (untaken : List Tag) × AreSentBy home proxy opening texts place [] log sent × (tags_through home proxy history ++ untaken ≡ tags_of sent)
