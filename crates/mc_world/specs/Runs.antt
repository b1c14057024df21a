-- What lists of calls do to the course of a world.
use Rattle.std.specs.Prelude.{ℕ, ◌≡◌, ◌⊎◌, List, [], ◌∷◌}
use Rattle.mc_cache.specs.CacheState.{CacheState}
use Rattle.mc_world.specs.Courses.{IsDone}
use Rattle.mc_world.specs.Joins.{HasLearnedServer, HasServerJoined}
use Rattle.mc_world.specs.Restarts.{HasServerRestarted}
use Rattle.mc_world.specs.Worlds.{CourseState}
use Rattle.mc_world.specs.declared.events.Event.{Event}

-- an event is done, or nothing has changed: it did not apply, or memory was refused
abbrev pub Goes : Event (List ℕ) → CourseState → CourseState → Type 0
Goes event old new = IsDone event old new ⊎ (new ≡ old)

-- a call of a world
pub data Call : Type 0 where
  -- an event, which is done if it applies
  Step : Event (List ℕ) → Call
  -- a server of this address joins at this proxy
  Join : ℕ → List ℕ → Call
  -- this proxy learns a server of this address
  Learn : ℕ → List ℕ → Call
  -- the server of this place restarts
  Restart : ℕ → Call

-- what a call does, with this cache for a server that joins or restarts: nothing has changed if it does not apply, is refused, or memory was
abbrev pub IsCalled : CacheState → Call → CourseState → CourseState → Type 0
IsCalled opening (Step event) old new = Goes event old new
IsCalled opening (Join proxy address) old new = HasServerJoined proxy address opening old new ⊎ (new ≡ old)
IsCalled opening (Learn proxy address) old new = HasLearnedServer proxy address old new ⊎ (new ≡ old)
IsCalled opening (Restart place) old new = HasServerRestarted place opening old new ⊎ (new ≡ old)

-- calls of each kind in sequence, in any order; a proxy restarts by events
abbrev pub Calls : CacheState → List Call → CourseState → CourseState → Type 0
Calls opening [] old new = new ≡ old
Calls opening (call ∷ calls) old new = (next : CourseState) × IsCalled opening call old next × Calls opening calls next new
