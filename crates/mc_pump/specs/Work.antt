-- The work of a pump's turns. Source: this project's own.
use Rattle.std.specs.Prelude.{ℕ, ◌<◌, ◌+◌, ◌-◌, ◌/◌, List, [], ◌∷◌, length}
use Rattle.mc_cache.specs.CacheState.{CacheState}
use Rattle.mc_server.specs.Served.{ServedRequest, answer_after, cache_after}
use Rattle.mc_server.specs.Work.{work_of}
use Rattle.mc_server.specs.declared.limits.TheConstants.{WORK_BYTES}

-- the units of work of an entry of a history on a cache: those of its request, and one for each 1,024 bytes of its whole answer
abbrev pub work_at : CacheState → ServedRequest → ℕ
work_at s e = work_of e.what s + length (answer_after s e) / WORK_BYTES

-- the units of work of a history
abbrev pub work_in : CacheState → List ServedRequest → ℕ
work_in s [] = 0
work_in s (e ∷ es) = work_at s e + work_in (cache_after s e) es

-- each entry of a history is served only while work is left
abbrev pub IsWithin : (left : ℕ) → CacheState → List ServedRequest → Type 0
IsWithin left s [] = Unit {0}
IsWithin left s (e ∷ es) = (0 < left) × IsWithin (left - work_at s e) (cache_after s e) es
