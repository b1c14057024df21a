-- When caches are one map: this project's own.
use Rattle.std.specs.Prelude.{◌≡◌, ℕ, ◌+◌, ◌<◌, ◌≤◌, ◌==◌, ◌&&◌, not, Bool, true, false, List, length, Option, Some, None}
use Rattle.std.specs.Option.{is_none, option_map}
use Rattle.mc_text.specs.declared.blocks.TheConstants.{VALUE_LIMIT}
use Rattle.mc_item.specs.declared.bodies.Body.{Body}
use Rattle.mc_item.specs.Costs.{cost_at}
use Rattle.mc_request.specs.declared.meta.MetaCommand.TheVariants as metas
use Rattle.mc_request.specs.declared.parts.Atom.{Atom}
use Rattle.mc_request.specs.declared.parts.Atom.TheVariants as atoms
use Rattle.mc_request.specs.declared.parts.Update.{Update}
use Rattle.mc_request.specs.declared.parts.Update.TheVariants.{Store, Touch, Delete, Count, FlushAll}
use Rattle.mc_reply.specs.CanHave.{is_store_fault}
use Rattle.mc_reply.specs.declared.replies.Reply.{Reply}
use Rattle.mc_reply.specs.declared.replies.Reply.TheVariants.{Fault}
use Rattle.mc_store.specs.Items.{Items, body_at, without, cost_sum}
use Rattle.mc_cache.specs.CacheState.{CacheState, IsHeldWithin}
use Rattle.mc_cache.specs.Step.{atom_key, step_of}
use Rattle.mc_cache_laws.specs.OneMap.{OneMap, map_step}

-- an update that compares no number, and is no flush
abbrev pub is_unnumbered : {K B : Type 0} → Update K B → Bool
is_unnumbered (Store mode compare key flags exptime block) = is_none compare
is_unnumbered (Touch key exptime) = true
is_unnumbered (Delete key compare invalidate) = is_none compare
is_unnumbered (Count key counting) = is_none counting.compare
is_unnumbered (FlushAll delay) = false

-- a command of the map: it compares no number, shows none, and is no flush
abbrev pub is_of_map : {B : Type 0} → Atom B → Bool
is_of_map (atoms.Get key exptime with_cas) = not with_cas
is_of_map (atoms.Update update) = is_unnumbered update
is_of_map (atoms.Meta (metas.Get key get)) = not get.show.cas
is_of_map (atoms.Meta (metas.Update update show)) = is_unnumbered update && not show.cas

-- the reply to a store that was refused: it is too large, the numbers are used up, or memory is missing
abbrev pub is_refused_store : Reply (List ℕ) → Bool
is_refused_store (Fault fault) = is_store_fault fault
is_refused_store other = false

-- as many items are stored under other keys after the step as before it: none was evicted
abbrev pub keeps_others : Option (List ℕ) → Items → Items → Bool
keeps_others None before after = true
keeps_others (Some key) before after = length (without key after) == length (without key before)

-- a plain step: a command of the map, which is not refused and evicts nothing
pub record IsPlainStep (s : CacheState) (atom : Atom (List ℕ)) (moment : ℕ) (refused : Bool) : Type 0 where
  pub of_map : is_of_map atom ≡ true
  pub answered : is_refused_store (step_of s atom moment refused).1 ≡ false
  pub kept : keeps_others (atom_key atom) s.items (step_of s atom moment refused).0.items ≡ true

-- a cache within its bounds, with no flush pending
pub record IsUnflushed (s : CacheState) : Type 0 where
  pub within : IsHeldWithin s.budget s.limit s.items
  pub pending : s.pending ≡ None

-- a body without its number
abbrev pub unnumbered : Body → Body
unnumbered body = record body { cas = 0 }

-- the items of a cache as a map
abbrev pub map_of : Items → OneMap
map_of items key = option_map unnumbered (body_at key items)

-- a cache holds the map's items
abbrev pub IsMap : OneMap → CacheState → Type 0
IsMap map s = (key : List ℕ) → map key ≡ map_of s.items key

-- this step is a step of the map: the reply is the map's, and the cache holds the map's items after it
pub record IsMapStep (map : OneMap) (s : CacheState) (atom : Atom (List ℕ)) (moment : ℕ) (refused : Bool) : Type 0 where
  pub reply : (step_of s atom moment refused).1 ≡ (map_step map atom moment).1
  pub holds : IsMap (map_step map atom moment).0 (step_of s atom moment refused).0
  pub unflushed : IsUnflushed (step_of s atom moment refused).0

-- each plain step of a cache that holds the map's items is a step of the map
abbrev pub StepsAsMap : CacheState → Type 0
StepsAsMap s =
    (map : OneMap) → IsMap map s → (atom : Atom (List ℕ)) (moment : ℕ) (refused : Bool) → IsPlainStep s atom moment refused → IsMapStep map s atom moment refused

-- there is room for one more item under a key, however long its value
pub record IsWide (s : CacheState) (key : List ℕ) : Type 0 where
  pub bytes : cost_sum s.items + cost_at (length key) VALUE_LIMIT ≤ s.budget
  pub items : length s.items < s.limit

-- if there is such room, a command on the key evicts nothing
abbrev pub EvictsNothing : CacheState → Type 0
EvictsNothing s =
    (atom : Atom (List ℕ)) (moment : ℕ) (refused : Bool) (key : List ℕ) → atom_key atom ≡ Some key → IsWide s key
    → keeps_others (atom_key atom) s.items (step_of s atom moment refused).0.items ≡ true
