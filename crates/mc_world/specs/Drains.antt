-- What a drain does: this project's own.
use Rattle.std.specs.Prelude.{ℕ, ◌≡◌, ◌==◌, Bool, true, List, [], ◌∷◌}
use Rattle.std.specs.List.{list_all}
use Rattle.mc_world.specs.Courses.{IsDone}
use Rattle.mc_world.specs.Quiet.{is_inner}
use Rattle.mc_world.specs.Worlds.{CourseState}
use Rattle.mc_world.specs.declared.events.Event.{Event}
use Rattle.mc_world.specs.declared.events.Event.TheVariants.{ServerTurn}

-- an event that a drain at a moment may do: one of the pool itself, in which a server takes its requests at that
-- moment
abbrev pub is_of_drain : ℕ → Event (List ℕ) → Bool
is_of_drain moment (ServerTurn proxy server generation at) = at == moment
is_of_drain moment other = is_inner other

-- events are done in sequence
abbrev pub AreDone : List (Event (List ℕ)) → CourseState → CourseState → Type 0
AreDone [] old new = new ≡ old
AreDone (event ∷ events) old new = (next : CourseState) × IsDone event old next × AreDone events next new

-- a drain at a moment: such events are done
pub record Drains (moment : ℕ) (old new : CourseState) : Type 0 where
  pub events : List (Event (List ℕ))
  pub all : list_all (is_of_drain moment) events ≡ true
  pub done : AreDone events old new
