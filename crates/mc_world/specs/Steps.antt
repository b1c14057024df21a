-- What a world's steps do, and its runs.
use Rattle.std.specs.Prelude.{ℕ, ◌≡◌, ◌+◌, ◌⊎◌, ◌↔◌, List, [], ◌∷◌}
use Rattle.mc_world.specs.Accounts.{Account}
use Rattle.mc_world.specs.Courses.{Applies, IsDone}
use Rattle.mc_world.specs.Happens.{Does}
use Rattle.mc_world.specs.WorldState.{home_of}
use Rattle.mc_world.specs.Worlds.{CourseState, WorldState, cache_of, history_of, put_out_of, text_of}
use Rattle.mc_world.specs.declared.errors.Step.{Step}
use Rattle.mc_world.specs.declared.errors.Step.TheVariants.{Done}
use Rattle.mc_world.specs.declared.events.Event.{Event}

-- what a step does that answers so: if it answers Done the event is done, else nothing changes; it answers Done if and only if the event
-- applies
pub record StepsTo (event : Event (List ℕ)) (step : Step) (old new : CourseState) : Type 0 where
  pub does : Does step (IsDone event old new) (new ≡ old)
  pub applies : (step ≡ Done) ↔ Applies event old.pool

-- an event that is tried, with this number of refusals: its step answers, or memory is refused, and then nothing changes
abbrev pub IsTried : Event (List ℕ) → CourseState → CourseState → ℕ → Type 0
IsTried event old new refusals = ((step : Step) × StepsTo event step old new × (refusals ≡ 0)) ⊎ ((new ≡ old) × (refusals ≡ 1))

-- events that are tried in sequence, with this number of refusals in all
abbrev pub RunsTo : List (Event (List ℕ)) → CourseState → CourseState → ℕ → Type 0
RunsTo [] old new refusals = (new ≡ old) × (refusals ≡ 0)
RunsTo (event ∷ events) old new refusals =
    (next : CourseState) × (first : ℕ) × (more : ℕ) × IsTried event old next first × RunsTo events next new more × (refusals ≡ first + more)

-- the account of a world: of the proxy of each client, its choice for lost commands, its clients' texts and the bytes that were emitted to them, its servers' histories,
-- and its log
abbrev pub GivesAccount : WorldState → Type 0
GivesAccount w = Account (home_of w.course.pool) w.losses w.opening (cache_of w) (text_of w.course) (put_out_of w.course) (history_of w.course) w.course.log
