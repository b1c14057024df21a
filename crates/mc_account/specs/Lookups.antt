-- The commands of an order by their tags, and their outcomes.
use Rattle.std.specs.Prelude.{ℕ, ◌≡◌, ◌<◌, ◌≤◌, ◌⊎◌, List, [], ◌∷◌, length, Option, Some, None, slice_get}
use Rattle.mc_request.specs.Atoms.{head_of}
use Rattle.mc_request.specs.declared.parts.Atom.{Atom}
use Rattle.mc_ring.specs.Rings.{IsRing}
use Rattle.mc_route.specs.Routes.{route_of_taken, to_place}
use Rattle.mc_route.specs.declared.outcomes.Outcome.{Outcome}
use Rattle.mc_route.specs.declared.outcomes.Outcome.TheVariants.{Awaited}
use Rattle.mc_route.specs.declared.routes.Routed.{Routed}
use Rattle.mc_link.specs.LinkState.{Waiting}
use Rattle.mc_link.specs.declared.turns.Tag.{Tag}
use Rattle.mc_account.specs.Orders.{Order, TakenRequest, entries_of, note}

-- the request of a number of a session, if it was taken
abbrev pub asked_at : Order → ℕ → ℕ → Option TakenRequest
asked_at order session request = slice_get (entries_of session order) request

-- the command of a number of a request, with the place of its server; and its outcome
abbrev pub command_in : Option TakenRequest → ℕ → Option Routed
command_in None atom = None
command_in (Some e) atom = slice_get (route_of_taken e.ring e.what) atom

abbrev pub outcome_in : Option TakenRequest → ℕ → Option Outcome
outcome_in None atom = None
outcome_in (Some e) atom = slice_get e.outcomes atom

-- the command of a tag, with the place of its server; and its outcome
abbrev pub command_at : Order → Tag → Option Routed
command_at order tag = command_in (asked_at order tag.session tag.request) tag.atom

abbrev pub outcome_at : Order → Tag → Option Outcome
outcome_at order tag = outcome_in (asked_at order tag.session tag.request) tag.atom

-- two commands of one session, the first asked before the second
abbrev pub IsBefore : Tag → Tag → Type 0
IsBefore a b = (a.request < b.request) ⊎ ((a.request ≡ b.request) × (a.atom < b.atom))

-- a pending command of a link is one that the order has for the server at its place, with an outcome that is not known yet
pub record IsAwaited (place : ℕ) (order : Order) (waiting : Waiting) : Type 0 where
  pub atom : Atom (List ℕ)
  pub head : head_of atom ≡ waiting.0
  pub command : command_at order waiting.1 ≡ Some (to_place place atom)
  pub outcome : outcome_at order waiting.1 ≡ Some Awaited

-- the outcome of each of these commands is not known yet when it is its turn to be noted
abbrev pub AreAwaited : List Tag → Outcome → Order → Type 0
AreAwaited [] outcome order = Unit {0}
AreAwaited (tag ∷ tags) outcome order = (outcome_at order tag ≡ Some Awaited) × AreAwaited tags outcome (note tag outcome order)

-- an entry was routed by a ring of at most `places` servers
pub record IsRoutedWithin (places : ℕ) (e : TakenRequest) : Type 0 where
  pub ring : IsRing e.ring
  pub few : length e.ring.servers ≤ places
