-- Which of several causes ends a run, and which error the run returns.
use Rattle.std.specs.Prelude.{ℕ, ◌≡◌, ◌<◌, ◌≤◌, ◌⊎◌, List, Result, Ok, Err, Some, slice_get}
use Rattle.mc_threads.specs.Workers.{WasRefused}
use Rattle.mc_threads.specs.declared.errors.Ended.{Ended}
use Rattle.mc_threads.specs.declared.errors.Ended.TheVariants.{GateShut, EndsDiffer, StartFailed, Strange, Memory, Stopped}
use Rattle.mc_threads.specs.declared.errors.ThreadsError.{ThreadsError}
use Rattle.mc_threads.specs.declared.errors.ThreadsError.TheVariants as errors

-- the rank of a cause: its number, then refused memory, and last a stop that another thread's error caused
abbrev pub rank_of : Ended → ℕ
rank_of GateShut = 4
rank_of EndsDiffer = 5
rank_of StartFailed = 6
rank_of Strange = 7
rank_of Memory = 8
rank_of Stopped = 9

-- a thread ended by a cause: the caller's, which ended so, or one of the workers, which ended so
abbrev pub IsCause : {T : Type 0} → Result (Unit {0}) Ended → List (Result T Ended) → Ended → Type 0
IsCause {T} own results cause = (own ≡ Err cause) ⊎ ((server : ℕ) × (slice_get results server ≡ Some (Err cause)))

-- The cause by which a run ends is that of a thread, and none is before it; there is none only if no thread ended by a cause.
abbrev pub IsLeast : {T : Type 0} → Result (Unit {0}) Ended → List (Result T Ended) → Result (Unit {0}) Ended → Type 0
IsLeast {T} own results (Ok nothing) = (cause : Ended) → IsCause own results cause → ⊥
IsLeast {T} own results (Err least) = IsCause own results least × ((cause : Ended) → IsCause own results cause → rank_of least ≤ rank_of cause)

-- why the caller's thread ends: no gate refuses it
abbrev pub EndsCaller : Ended → Type 0
EndsCaller GateShut = ⊥
EndsCaller cause = Unit {0}

-- why a run ends: if the gate is shut, it refused one of this number of servers
abbrev pub EndsRun : ℕ → (ℕ → ℕ → Type 0) → (ℕ → ℕ → Type 0) → Ended → Type 0
EndsRun servers lets refuses GateShut = (server : ℕ) × (server < servers) × WasRefused (lets server) (refuses server)
EndsRun servers lets refuses cause = Unit {0}

-- the error that a run returns for a cause: a thread is stopped only if another one failed
abbrev pub error_of : Ended → ThreadsError
error_of GateShut = errors.GateShut
error_of EndsDiffer = errors.EndsDiffer
error_of StartFailed = errors.StartFailed
error_of Strange = errors.Strange
error_of Memory = errors.Memory
error_of Stopped = errors.Memory
