-- Commands for which a server may need memory: this project's own.
use Rattle.std.specs.Prelude.{ℕ, ◌≡◌, ◌⊎◌, Bool, true, false, nat_lt, List, [], ◌∷◌, length, None}
use Rattle.mc_request.specs.declared.meta.MetaCommand.TheVariants as metas
use Rattle.mc_request.specs.declared.parts.Atom.{Atom}
use Rattle.mc_request.specs.declared.parts.Atom.TheVariants as atoms
use Rattle.mc_request.specs.declared.parts.StoreMode.TheVariants.{Append, Prepend}
use Rattle.mc_request.specs.declared.parts.Update.{Update}
use Rattle.mc_request.specs.declared.parts.Update.TheVariants.{Count, Store}
use Rattle.mc_ring.specs.Rings.{RingState}
use Rattle.mc_route.specs.Routes.{to_place}
use Rattle.mc_cache.specs.CacheState.{CacheState}
use Rattle.mc_cache.specs.Memory.{may_refuse}
use Rattle.mc_cache.specs.Settling.{settled}
use Rattle.mc_cache.specs.Step.{atom_key, held_under, step_of}
use Rattle.mc_history.specs.declared.entries.Entry.{Entry}
use Rattle.mc_history.specs.Histories.{tag_in}
use Rattle.mc_world.specs.Homes.{Homes}
use Rattle.mc_world.specs.Logs.{Log}
use Rattle.mc_pool_laws.specs.Sent.{IsSent}

-- a command that may make a stored value longer: an append or a prepend of some bytes, or a count
abbrev pub may_lengthen : Update (List ℕ) (List ℕ) → Bool
may_lengthen (Store Append compare key flags exptime block) = nat_lt 0 (length block)
may_lengthen (Store Prepend compare key flags exptime block) = nat_lt 0 (length block)
may_lengthen (Count key counting) = true
may_lengthen other = false

abbrev pub lengthens : Atom (List ℕ) → Bool
lengthens (atoms.Update update) = may_lengthen update
lengthens (atoms.Meta (metas.Update update show)) = may_lengthen update
lengthens other = false

-- a command that may store an item: no `get`, `touch`, `delete` or `flush_all`
abbrev pub may_store : Update (List ℕ) (List ℕ) → Bool
may_store (Store mode compare key flags exptime block) = true
may_store (Count key counting) = true
may_store other = false

abbrev pub stores : Atom (List ℕ) → Bool
stores (atoms.Update update) = may_store update
stores (atoms.Meta (metas.Update update show)) = may_store update
stores (atoms.Meta (metas.Get key get)) = true
stores other = false

-- A command needs memory at a moment: memory may be refused to it exactly then. It may store an item, under a key that is missing then, or
-- make the stored value longer.
pub record WantsMemory (s : CacheState) (atom : Atom (List ℕ)) (moment : ℕ) : Type 0 where
  pub exact : may_refuse s atom moment ≡ true
  pub stores : stores atom ≡ true
  pub grows : (held_under (atom_key atom) (settled s (atom_key atom) moment) ≡ None) ⊎ (lengthens atom ≡ true)

-- Memory is refused to no other command: each entry of a history is of a command that its client sent to this server. If memory was
-- refused to it, it needed memory of the cache that the entry before has left.
abbrev pub AreWanted : Homes → RingState → (ℕ → List ℕ) → Log → ℕ → CacheState → List Entry → Type 0
AreWanted home opening texts log place s [] = Unit {0}
AreWanted home opening texts log place s (e ∷ es) =
    (atom : Atom (List ℕ)) × IsSent home opening texts log (tag_in e) (to_place place atom) × (e.refused ≡ true → WantsMemory s atom e.moment)
    × AreWanted home opening texts log place (step_of s atom e.moment e.refused).0 es
