-- What a watch counts: stores that were refused for lack of memory, and the work that is left to a pump. Source: this project's own.
use Rattle.std.specs.Prelude.{◌≡◌, ℕ, ◌+◌, ◌-◌, ◌%◌, ◌^◌, List, [], ◌∷◌, if◌then◌else◌}
use Rattle.std.specs.Str.{bytes_eq}
use Rattle.mc_request.specs.Faults.{fault_line}
use Rattle.mc_request.specs.declared.faults.Fault.TheVariants.{OutOfMemory}
use Rattle.mc_cache.specs.CacheState.{CacheState}
use Rattle.mc_server.specs.Served.{ServedRequest, answer_after, cache_after}
use Rattle.mc_pump.specs.Work.{IsWithin, work_in}
use Rattle.mc_pump.specs.declared.watches.Watch.{Watch}

-- one for an answer that is the line for lack of memory, and nothing else
abbrev pub refusal_in : List ℕ → ℕ
refusal_in answer = if bytes_eq answer (fault_line OutOfMemory) then 1 else 0

-- how many entries of a history have this answer
abbrev pub refusals_in : CacheState → List ServedRequest → ℕ
refusals_in s [] = 0
refusals_in s (e ∷ es) = refusal_in (answer_after s e) + refusals_in (cache_after s e) es

-- a count of 64 bits goes up by one for each entry of a history that has this answer, and by nothing else
abbrev pub Counts : CacheState → List ServedRequest → ℕ → ℕ → Type 0
Counts s history count count' = count' % 2 ^ 64 ≡ (count + refusals_in s history) % 2 ^ 64

-- what a watch has counted: the stores that were refused for lack of memory, and the work that is left to its pump; and how many bytes its
-- connection may keep
pub record Counted : Type 0 where
  pub refused : ℕ
  pub left : ℕ
  pub most : ℕ

abbrev pub counted_by : Watch → Counted
counted_by watch = record { refused = watch.no_memory; left = watch.left; most = watch.most }

-- the refused stores of a history are counted, each of its entries is served only while work is left, and its work is spent; what the connection
-- may keep stays as it is
pub record CountsWithin (s : CacheState) (history : List ServedRequest) (count count' : Counted) : Type 0 where
  pub refused : Counts s history count.refused count'.refused
  pub within : IsWithin count.left s history
  pub left : count'.left ≡ count.left - work_in s history
  pub most : count'.most ≡ count.most
