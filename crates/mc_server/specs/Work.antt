-- How much work a request costs a server, in units: a pump takes turns until a quantum of it is spent.
use Rattle.std.specs.Prelude.{ℕ, ◌+◌, ◌/◌, Bool, true, false, List, [], ◌∷◌, length, if◌then◌else◌}
use Rattle.mc_request.specs.declared.meta.MetaCommand.{MetaCommand}
use Rattle.mc_request.specs.declared.meta.MetaCommand.TheVariants as metas
use Rattle.mc_request.specs.declared.parts.Parsed.{Parsed}
use Rattle.mc_request.specs.declared.parts.Parsed.TheVariants.{Whole, Faulty}
use Rattle.mc_request.specs.declared.parts.Request.{Request}
use Rattle.mc_request.specs.declared.parts.Request.TheVariants.{Get, Update, Meta}
use Rattle.mc_request.specs.declared.parts.StoreMode.{StoreMode}
use Rattle.mc_request.specs.declared.parts.StoreMode.TheVariants.{Append, Prepend}
use Rattle.mc_request.specs.declared.parts.Update as updates
use Rattle.mc_request.specs.declared.parts.Update.TheVariants.{Store}
use Rattle.mc_cache.specs.CacheState.{CacheState, value_at}
use Rattle.mc_server.specs.declared.limits.TheConstants.{WORK_BYTES}

-- a store joins its block to the stored value, which is copied too
abbrev pub joins : StoreMode → Bool
joins Append = true
joins Prepend = true
joins _ = false

-- the bytes that a store copies beside its block
abbrev pub joined_bytes : StoreMode → List ℕ → CacheState → ℕ
joined_bytes mode key s = if joins mode then length (value_at key s.items) else 0

-- a store is one unit, and one for each WORK_BYTES bytes that it copies; any other update is one
abbrev pub update_work : updates.Update (List ℕ) (List ℕ) → CacheState → ℕ
update_work (Store mode compare key flags exptime block) s = 1 + (length block + joined_bytes mode key s) / WORK_BYTES
update_work update s = 1

abbrev pub meta_work : MetaCommand (List ℕ) (List ℕ) → CacheState → ℕ
meta_work (metas.Get key get) s = 1
meta_work (metas.Update update show) s = update_work update s

-- a retrieval is one unit, and one for each key
abbrev pub request_work : Request → CacheState → ℕ
request_work (Get keys exptime with_cas) s = 1 + length keys
request_work (Update update noreply) s = update_work update s
request_work (Meta command form) s = meta_work command s
request_work request s = 1

-- the work of a request or fault on a cache; the bytes of its answer are not counted
abbrev pub work_of : Parsed → CacheState → ℕ
work_of (Faulty fault) s = 1
work_of (Whole request) s = request_work request s

-- the work of the next turn, by what is pending: 0 if nothing is pending
abbrev pub work_of_first : List Parsed → CacheState → ℕ
work_of_first [] s = 0
work_of_first (taken ∷ others) s = work_of taken s
