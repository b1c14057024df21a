-- The replies that a command can have, as far as its head decides.
use Rattle.std.specs.Prelude.{ℕ, ◌^◌, ◌&&◌, nat_lt, nat_le, Bool, true, false, List, Option, Some, None}
use Rattle.std.specs.Option.{is_some}
use Rattle.mc_text.specs.declared.blocks.TheConstants.{VALUE_LIMIT}
use Rattle.mc_request.specs.WellFormed.{is_good_block, is_u64, is_where_some}
use Rattle.mc_request.specs.declared.faults.Fault.{Fault as AFault}
use Rattle.mc_request.specs.declared.faults.Fault.TheVariants.{NonNumeric, TooLarge, CasUsedUp, OutOfMemory}
use Rattle.mc_request.specs.declared.meta.MetaCommand.{MetaCommand}
use Rattle.mc_request.specs.declared.meta.MetaCommand.TheVariants as metas
use Rattle.mc_request.specs.declared.meta.Show.{Show}
use Rattle.mc_request.specs.declared.parts.Atom.{Atom}
use Rattle.mc_request.specs.declared.parts.Atom.TheVariants as atoms
use Rattle.mc_request.specs.declared.parts.StoreMode.{StoreMode}
use Rattle.mc_request.specs.declared.parts.StoreMode.TheVariants.{Set}
use Rattle.mc_request.specs.declared.parts.Update.{Update}
use Rattle.mc_request.specs.declared.parts.Update.TheVariants.{Store, Touch, Delete, Count, FlushAll}
use Rattle.mc_reply.specs.declared.replies.Marks.{Marks}
use Rattle.mc_reply.specs.declared.replies.Marks.TheVariants.{Plain}
use Rattle.mc_reply.specs.declared.replies.Shown.{Shown}
use Rattle.mc_reply.specs.declared.replies.Reply.{Reply}
use Rattle.mc_reply.specs.declared.replies.Reply.TheVariants.{Stored, NotStored, Exists, NotFound, Deleted, Touched, Flushed, Number, Miss, Hit, Meta, Fault}

-- a part is present exactly if it is asked for, and passes a test
abbrev pub is_as_asked : {A : Type 0} → (A → Bool) → Bool → Option A → Bool
is_as_asked test true (Some part) = test part
is_as_asked test true None = false
is_as_asked test false (Some part) = false
is_as_asked test false None = true

-- a number of 32 bits
abbrev pub is_u32 : ℕ → Bool
is_u32 n = nat_lt n (2 ^ 32)

-- the size of a value
abbrev pub is_size : ℕ → Bool
is_size n = nat_le n VALUE_LIMIT

-- what is shown of an item is what was asked for
abbrev pub is_shown_by : Show → Shown → Bool
is_shown_by show shown =
    is_as_asked is_u64 show.cas shown.cas && is_as_asked is_u32 show.flags shown.flags && is_as_asked is_size show.size shown.size
    && is_as_asked (is_where_some is_u64) show.left shown.left

-- no mark
abbrev pub is_unmarked : Marks → Bool
is_unmarked Plain = true
is_unmarked marks = false

-- what a meta command that was done shows; only `mg` has marks
abbrev pub is_done : Show → Shown → Option (List ℕ) → Bool
is_done show shown value = is_shown_by show shown && is_as_asked is_good_block show.value value

abbrev pub is_done_unmarked : Show → Shown → Option (List ℕ) → Bool
is_done_unmarked show shown value = is_unmarked shown.marks && is_done show shown value

-- why a store is refused
abbrev pub is_store_fault : AFault → Bool
is_store_fault TooLarge = true
is_store_fault CasUsedUp = true
is_store_fault OutOfMemory = true
is_store_fault fault = false

-- why a count is
abbrev pub is_count_fault : AFault → Bool
is_count_fault NonNumeric = true
is_count_fault fault = is_store_fault fault

-- why an `md` that leaves its item stale is
abbrev pub is_cas_fault : AFault → Bool
is_cas_fault CasUsedUp = true
is_cas_fault fault = false

-- whether a mode requires that its key be stored, or that it be not
abbrev pub is_conditional : StoreMode → Bool
is_conditional Set = false
is_conditional mode = true

-- the replies to a classic update: source protocol.txt, each command's section, except the error lines, which are this project's own
abbrev pub can_have_update : {K B : Type 0} → Update K B → Reply (List ℕ) → Bool
can_have_update (Store mode compare key flags exptime block) Stored = true
can_have_update (Store mode compare key flags exptime block) NotStored = is_conditional mode
can_have_update (Store mode compare key flags exptime block) Exists = is_some compare
can_have_update (Store mode compare key flags exptime block) NotFound = is_some compare
can_have_update (Store mode compare key flags exptime block) (Fault fault) = is_store_fault fault
can_have_update (Touch key exptime) Touched = true
can_have_update (Touch key exptime) NotFound = true
can_have_update (Delete key compare invalidate) Deleted = true
can_have_update (Delete key compare invalidate) NotFound = true
can_have_update (Count key counting) (Number number) = is_u64 number
can_have_update (Count key counting) NotFound = true
can_have_update (Count key counting) (Fault fault) = is_count_fault fault
can_have_update (FlushAll delay) Flushed = true
can_have_update update other = false

-- the replies to a meta command: source protocol.txt, "Meta Get", "Meta Set", "Meta Delete", "Meta Arithmetic", likewise;
-- that `ma` never answers `NS` is this project's own
abbrev pub can_have_meta : {K B : Type 0} → MetaCommand K B → Reply (List ℕ) → Bool
can_have_meta (metas.Get key get) Miss = true
can_have_meta (metas.Get key get) (Meta shown value) = is_done get.show shown value
can_have_meta (metas.Get key get) (Fault fault) = is_some get.create && is_store_fault fault
can_have_meta (metas.Update (Store mode compare key flags exptime block) show) NotStored = true
can_have_meta (metas.Update (Store mode compare key flags exptime block) show) Exists = true
can_have_meta (metas.Update (Store mode compare key flags exptime block) show) NotFound = true
can_have_meta (metas.Update (Store mode compare key flags exptime block) show) (Meta shown value) = is_done_unmarked show shown value
can_have_meta (metas.Update (Store mode compare key flags exptime block) show) (Fault fault) = is_store_fault fault
can_have_meta (metas.Update (Delete key compare invalidate) show) Exists = true
can_have_meta (metas.Update (Delete key compare invalidate) show) NotFound = true
can_have_meta (metas.Update (Delete key compare invalidate) show) (Meta shown value) = is_done_unmarked show shown value
can_have_meta (metas.Update (Delete key compare invalidate) show) (Fault fault) = invalidate && is_cas_fault fault
can_have_meta (metas.Update (Count key counting) show) Exists = true
can_have_meta (metas.Update (Count key counting) show) NotFound = true
can_have_meta (metas.Update (Count key counting) show) (Meta shown value) = is_done_unmarked show shown value
can_have_meta (metas.Update (Count key counting) show) (Fault fault) = is_count_fault fault
can_have_meta command other = false

-- the replies to a command, each with numbers and a value within their limits
abbrev pub can_have : {B : Type 0} → Atom B → Reply (List ℕ) → Bool
can_have (atoms.Get key exptime with_cas) Miss = true
can_have (atoms.Get key exptime with_cas) (Hit flags cas value) = is_u32 flags && is_as_asked is_u64 with_cas cas && is_good_block value
can_have (atoms.Get key exptime with_cas) other = false
can_have (atoms.Update update) reply = can_have_update update reply
can_have (atoms.Meta command) reply = can_have_meta command reply
