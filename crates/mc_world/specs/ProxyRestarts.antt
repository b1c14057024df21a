-- A proxy of a pool restarts, in the course of a world.
use Rattle.std.specs.Prelude.{ℕ, ◌≡◌, ◌==◌, Bool, true, false, List, None}
use Rattle.std.specs.List.{list_all}
use Rattle.mc_world.specs.declared.events.Event.{Event}
use Rattle.mc_world.specs.declared.events.Event.TheVariants.{ClientGone, LinkLost}
use Rattle.mc_world.specs.Applies.{IsUp}
use Rattle.mc_world.specs.Drains.{AreDone}
use Rattle.mc_world.specs.Homes.{Homes}
use Rattle.mc_world.specs.WorldState.{PoolState, home_of, session_of}
use Rattle.mc_world.specs.Worlds.{CourseState, history_of, put_out_of}

-- an event of a proxy that dies: one of its clients goes, or one of its links is lost
abbrev pub is_of_restart : Homes → ℕ → Event (List ℕ) → Bool
is_of_restart home proxy (ClientGone client) = home client == proxy
is_of_restart home proxy (LinkLost of server) = of == proxy
is_of_restart home proxy other = false

-- such events are done
pub record ProxyDies (proxy : ℕ) (old new : CourseState) : Type 0 where
  pub events : List (Event (List ℕ))
  pub all : list_all (is_of_restart (home_of old.pool) proxy) events ≡ true
  pub done : AreDone events old new

-- a proxy has no client
abbrev pub HasNoClient : ℕ → PoolState → Type 0
HasNoClient proxy pool = (client : ℕ) → home_of pool client ≡ proxy → session_of pool client ≡ None

-- a proxy that begins anew: it has no client, and none of its links is up
pub record IsAnew (proxy : ℕ) (pool : PoolState) : Type 0 where
  pub clients : HasNoClient proxy pool
  pub links : (place : ℕ) → IsUp proxy place pool → ⊥

-- what was emitted to each client, and what each server took, is as it was
pub record Stands (old new : CourseState) : Type 0 where
  pub emitted : (client : ℕ) → put_out_of new client ≡ put_out_of old client
  pub histories : (place : ℕ) → history_of new place ≡ history_of old place
