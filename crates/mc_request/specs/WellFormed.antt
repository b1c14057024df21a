-- What every request satisfies, however its bytes arrived.
use Rattle.std.specs.Prelude.{ℕ, ◌^◌, ◌&&◌, nat_lt, nat_le, Bool, not, true, false, ℤ, pos, negsuc, List, length, Option, Some, None}
use Rattle.std.specs.List.{list_all}
use Rattle.std.specs.Option.{option_map_or}
use Rattle.mc_text.specs.Keys.{is_key, is_plain_key}
use Rattle.mc_text.specs.declared.blocks.TheConstants.{VALUE_LIMIT}
use Rattle.mc_request.specs.declared.meta.Counting.{Counting}
use Rattle.mc_request.specs.declared.meta.Creation.{Creation}
use Rattle.mc_request.specs.declared.meta.MetaGet.{MetaGet}
use Rattle.mc_request.specs.declared.meta.MetaCommand.{MetaCommand}
use Rattle.mc_request.specs.declared.meta.MetaCommand.TheVariants as metas
use Rattle.mc_request.specs.declared.parts.Update.{Update}
use Rattle.mc_request.specs.declared.parts.Update.TheVariants.{Store, Touch, Delete, Count, FlushAll}
use Rattle.mc_request.specs.declared.names.Name.{Name}
use Rattle.mc_request.specs.declared.names.Name.TheVariants as names
use Rattle.mc_request.specs.Faults.{closes}
use Rattle.mc_request.specs.Flags.{takes_flags}
use Rattle.mc_request.specs.Meanings.{Meaning, PendingStore, Classic, MetaSet, Alone, Stores, Refuses}
use Rattle.mc_request.specs.Parts.{key_in, key_in_meta}
use Rattle.mc_request.specs.declared.parts.Request.{Request}
use Rattle.mc_request.specs.declared.parts.Request.TheVariants as requests
use Rattle.mc_request.specs.declared.parts.Parsed.{Parsed}
use Rattle.mc_request.specs.declared.parts.Parsed.TheVariants.{Whole, Faulty}

-- a number of 64 bits
abbrev pub is_u64 : ℕ → Bool
is_u64 n = nat_lt n (2 ^ 64)

-- a number of 64 bits, of which one is its sign
abbrev pub is_i64 : ℤ → Bool
is_i64 (pos n) = nat_lt n (2 ^ 63)
is_i64 (negsuc n) = nat_lt n (2 ^ 63)

-- what holds of a value, if there is one
abbrev pub is_where_some : {A : Type 0} → (A → Bool) → Option A → Bool
is_where_some test part = option_map_or test part true

-- the parts of a count with numbers within their limits
abbrev pub is_good_creation : Creation → Bool
is_good_creation creation = is_i64 creation.exptime && is_u64 creation.initial

abbrev pub is_good_counting : Counting → Bool
is_good_counting counting =
    is_u64 counting.delta && is_where_some is_u64 counting.compare && is_where_some is_good_creation counting.create && is_where_some is_i64 counting.exptime

-- an update that has a key, if it has one at all
abbrev pub has_key : {B : Type 0} → Update (List ℕ) B → Bool
has_key update = is_where_some is_key (key_in update)

-- a meta command that has a key, if it has one at all
abbrev pub has_meta_key : {B : Type 0} → MetaCommand (List ℕ) B → Bool
has_meta_key command = is_where_some is_key (key_in_meta command)

-- an update whose key and block pass tests, with numbers within their limits
abbrev pub is_good_update : {K B : Type 0} → (K → Bool) → (B → Bool) → Update K B → Bool
is_good_update is_good_key is_good_block (Store mode compare key flags exptime block) =
    is_good_key key && is_where_some is_u64 compare && nat_lt flags (2 ^ 32) && is_i64 exptime && is_good_block block
is_good_update is_good_key is_good_block (Touch key exptime) = is_good_key key && is_i64 exptime
is_good_update is_good_key is_good_block (Delete key compare invalidate) = is_good_key key && is_where_some is_u64 compare
is_good_update is_good_key is_good_block (Count key counting) = is_good_key key && is_good_counting counting
is_good_update is_good_key is_good_block (FlushAll delay) = is_i64 delay

-- what `mg` does, with numbers within their limits
abbrev pub is_good_get : MetaGet → Bool
is_good_get get = is_where_some is_i64 get.exptime && is_where_some is_i64 get.create && is_where_some is_u64 get.recache

-- a meta command whose key and block pass tests, with numbers within their limits
abbrev pub is_good_meta : {K B : Type 0} → (K → Bool) → (B → Bool) → MetaCommand K B → Bool
is_good_meta is_good_key is_good_block (metas.Get key get) = is_good_key key && is_good_get get
is_good_meta is_good_key is_good_block (metas.Update update show) = is_good_update is_good_key is_good_block update

-- the name of a meta command: neither `touch` nor `flush_all` has a meta form
abbrev pub command_name : {K B : Type 0} → MetaCommand K B → Option Name
command_name (metas.Get key get) = Some names.MetaGet
command_name (metas.Update (Store mode compare key flags exptime block) show) = Some names.MetaSet
command_name (metas.Update (Delete key compare invalidate) show) = Some names.MetaDelete
command_name (metas.Update (Count key counting) show) = Some names.MetaArithmetic
command_name command = None

-- flag words that are those of a command
abbrev pub has_flags : Option Name → List (List ℕ) → Bool
has_flags None words = false
has_flags (Some name) words = takes_flags name words

-- a key of a meta command: in base64 it may be any bytes
abbrev pub is_meta_key : Bool → List ℕ → Bool
is_meta_key true key = is_key key
is_meta_key false key = is_plain_key key

-- a data block that may be stored
abbrev pub is_good_block : List ℕ → Bool
is_good_block block = nat_le (length block) VALUE_LIMIT

abbrev pub is_good_request : Request → Bool
is_good_request (requests.Get keys exptime with_cas) =
    nat_lt 0 (length keys) && list_all is_plain_key keys && is_where_some is_i64 exptime
is_good_request (requests.Update update noreply) = is_good_update is_plain_key is_good_block update
is_good_request (requests.Meta command form) =
    is_good_meta (is_meta_key form.coded) is_good_block command && has_flags (command_name command) form.flags
is_good_request other = true

-- keys, data blocks of at most 1,048,576 bytes, numbers within their limits, flag words of their command
abbrev pub is_well_formed : Parsed → Bool
is_well_formed (Whole request) = is_good_request request
is_well_formed (Faulty fault) = true

-- what a storage command satisfies before its data block has arrived
abbrev pub is_good_storing : PendingStore → Bool
is_good_storing (Classic update noreply) = is_good_update is_plain_key (λ _. true) update
is_good_storing (MetaSet update show form) =
    is_good_update (is_meta_key form.coded) (λ _. true) update && has_flags (command_name (metas.Update update show)) form.flags

-- what the meaning of every line satisfies: what is taken is well formed, and what swallows a block closes nothing
abbrev pub is_good_meaning : Meaning → Bool
is_good_meaning (Alone taken) = is_well_formed taken
is_good_meaning (Stores storing len) = is_good_storing storing && nat_le len VALUE_LIMIT
is_good_meaning (Refuses fault len) = not (closes fault)
