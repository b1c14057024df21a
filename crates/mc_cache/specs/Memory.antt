-- Which commands may be refused memory, and which need an owned block first: this project's own.
use Rattle.std.specs.Prelude.{◌≡◌, ℕ, ◌&&◌, Bool, true, false, nat_lt, List, length, Option, Some, None, is_some, is_none, is_ok}
use Rattle.std.specs.Fmt.{decimal}
use Rattle.mc_text.specs.Numbers.{read_u64}
use Rattle.mc_item.specs.declared.bodies.Body.{Body}
use Rattle.mc_request.specs.Parts.{key_in}
use Rattle.mc_request.specs.declared.meta.Counting.{Counting}
use Rattle.mc_request.specs.declared.meta.MetaCommand.{MetaCommand}
use Rattle.mc_request.specs.declared.meta.MetaCommand.TheVariants as metas
use Rattle.mc_request.specs.declared.meta.MetaGet.{MetaGet}
use Rattle.mc_request.specs.declared.parts.Atom.{Atom}
use Rattle.mc_request.specs.declared.parts.Atom.TheVariants as atoms
use Rattle.mc_request.specs.declared.parts.StoreMode.{StoreMode}
use Rattle.mc_request.specs.declared.parts.StoreMode.TheVariants.{Append, Prepend}
use Rattle.mc_request.specs.declared.parts.Update.{Update}
use Rattle.mc_request.specs.declared.parts.Update.TheVariants.{Store, Count}
use Rattle.mc_store.specs.Items.{body_at}
use Rattle.mc_cache.specs.CacheState.{CacheState}
use Rattle.mc_cache.specs.Settling.{settled}
use Rattle.mc_cache.specs.Step.{Content, admission, compared, unstored, content_by, atom_key, counted}

-- what is stored: a key that is not stored yet, or a stored value that is made longer
abbrev pub mode_may_refuse : StoreMode → Option Body → List ℕ → Bool
mode_may_refuse mode None block = true
mode_may_refuse Append (Some body) block = nat_lt 0 (length block)
mode_may_refuse Prepend (Some body) block = nat_lt 0 (length block)
mode_may_refuse mode (Some body) block = false

-- a storage command, if it stores
abbrev pub store_may_refuse : Option ℕ → StoreMode → Option Body → List ℕ → Bool
store_may_refuse compare mode held block = is_none (unstored compare mode held) && mode_may_refuse mode held block

-- a number is made longer
abbrev pub number_may_refuse : Counting → List ℕ → Option ℕ → Bool
number_may_refuse counting value None = false
number_may_refuse counting value (Some number) =
    nat_lt (length value) (length (decimal (counted counting.direction counting.delta number)))

-- a count, if it stores: an item that is made, or a number that is made longer
abbrev pub count_may_refuse : Counting → Option Body → Bool
count_may_refuse counting None = is_some counting.create
count_may_refuse counting (Some body) =
    is_none (compared counting.compare (Some body)) && number_may_refuse counting body.value (read_u64 body.value)

abbrev pub update_may_refuse : CacheState → Update (List ℕ) (List ℕ) → Bool
update_may_refuse s (Store mode compare key flags exptime block) = store_may_refuse compare mode (body_at key s.items) block
update_may_refuse s (Count key counting) = count_may_refuse counting (body_at key s.items)
update_may_refuse s update = false

-- `mg`, if it makes an item
abbrev pub get_may_refuse : MetaGet → Option Body → Bool
get_may_refuse get None = is_some get.create
get_may_refuse get (Some body) = false

abbrev pub meta_may_refuse : CacheState → MetaCommand (List ℕ) (List ℕ) → Bool
meta_may_refuse s (metas.Get key get) = get_may_refuse get (body_at key s.items)
meta_may_refuse s (metas.Update update show) = update_may_refuse s update

abbrev pub settled_may_refuse : CacheState → Atom (List ℕ) → Bool
settled_may_refuse s (atoms.Get key exptime with_cas) = false
settled_may_refuse s (atoms.Update update) = update_may_refuse s update
settled_may_refuse s (atoms.Meta command) = meta_may_refuse s command

-- memory may be refused to a command at a moment only if it stores a key that is not stored yet, or makes a stored value longer
abbrev pub may_refuse : CacheState → Atom (List ℕ) → ℕ → Bool
may_refuse s atom moment = settled_may_refuse (settled s (atom_key atom) moment) atom

-- a whole value in place of the stored one
abbrev pub mode_takes_block : StoreMode → Option Body → Bool
mode_takes_block mode None = false
mode_takes_block Append (Some body) = false
mode_takes_block Prepend (Some body) = false
mode_takes_block mode (Some body) = true

-- a storage command that stores one, if it is admitted
abbrev pub store_takes_block : CacheState → Option ℕ → StoreMode → List ℕ → Option Body → List ℕ → Bool
store_takes_block s compare mode key held block =
    is_none (unstored compare mode held) && mode_takes_block mode held && is_ok (admission s key (length block))

abbrev pub update_takes_block : CacheState → Update (List ℕ) (List ℕ) → Bool
update_takes_block s (Store mode compare key flags exptime block) = store_takes_block s compare mode key (body_at key s.items) block
update_takes_block s update = false

-- a command whose block is borrowed needs an owned block at a moment, before anything changes, only if a whole value
-- is stored under a stored key; if it has an owned one already, that store takes no memory
abbrev pub takes_block : CacheState → Update (List ℕ) (List ℕ) → ℕ → Bool
takes_block s update moment = update_takes_block (settled s (key_in update) moment) update

-- a storage command stores its block as the whole value
pub record IsWhole (compare : Option ℕ) (mode : StoreMode) (held : Option Body) : Type 0 where
  pub stores : unstored compare mode held ≡ None
  pub content : (new : Content) → content_by mode held new ≡ new
  pub may_refuse : (block : List ℕ) → mode_may_refuse mode held block ≡ is_none held
  pub takes_block : mode_takes_block mode held ≡ is_some held
