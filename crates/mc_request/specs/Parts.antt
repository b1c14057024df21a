-- Commands: their keys and blocks, whatever the types of these.
use Rattle.std.specs.Prelude.{ℕ, Bool, true, false, List, [], Option, Some, None, if◌then◌else◌}
use Rattle.std.specs.Borrow.{Bor}
use Rattle.std.specs.Option.{option_map_or, unwrap_or}
use Rattle.mc_text.specs.Keys.{is_plain_key}
use Rattle.mc_text.specs.CodedKeys.{coded_key}
use Rattle.mc_request.specs.declared.meta.MetaCommand.{MetaCommand}
use Rattle.mc_request.specs.declared.meta.MetaCommand.TheVariants as metas
use Rattle.mc_request.specs.declared.parts.Update.{Update}
use Rattle.mc_request.specs.declared.parts.Update.TheVariants.{Store, Touch, Delete, Count, FlushAll}

-- the update, with another key and another block, each made of its own
abbrev pub update_map : {K L B C : Type 0} → (K → L) → (B → C) → Update K B → Update L C
update_map key_by block_by (Store mode compare key flags exptime block) = Store mode compare (key_by key) flags exptime (block_by block)
update_map key_by block_by (Touch key exptime) = Touch (key_by key) exptime
update_map key_by block_by (Delete key compare invalidate) = Delete (key_by key) compare invalidate
update_map key_by block_by (Count key counting) = Count (key_by key) counting
update_map key_by block_by (FlushAll delay) = FlushAll delay

-- the meta command, with another key and another block, each made of its own
abbrev pub meta_map : {K L B C : Type 0} → (K → L) → (B → C) → MetaCommand K B → MetaCommand L C
meta_map key_by block_by (metas.Get key get) = metas.Get (key_by key) get
meta_map key_by block_by (metas.Update update show) = metas.Update (update_map key_by block_by update) show

-- the key of an update: a flush has none
abbrev pub key_in : {K B : Type 0} → Update K B → Option K
key_in (Store mode compare key flags exptime block) = Some key
key_in (Touch key exptime) = Some key
key_in (Delete key compare invalidate) = Some key
key_in (Count key counting) = Some key
key_in (FlushAll delay) = None

-- the key of a meta command
abbrev pub key_in_meta : {K B : Type 0} → MetaCommand K B → Option K
key_in_meta (metas.Get key get) = Some key
key_in_meta (metas.Update update show) = key_in update

-- a borrowed update, with the bytes that it borrows
abbrev pub update_seen : Update (Bor (List ℕ)) (Bor (List ℕ)) → Update (List ℕ) (List ℕ)
update_seen update = update_map (λ key. key.now) (λ block. block.now) update

-- the key of a meta command's word, if it has one: the word itself, or what it is the base64 of
-- source: protocol.txt, "Meta Commands", flag b
abbrev pub key_said : Bool → List ℕ → Option (List ℕ)
key_said false word = if is_plain_key word then Some word else None
key_said true word = coded_key word

-- the bytes of that key
abbrev pub key_bytes : Bool → List ℕ → List ℕ
key_bytes coded word = unwrap_or (key_said coded word) []

-- a borrowed update of a meta command, with the key of its word and the bytes that it borrows
abbrev pub update_said : Bool → Update (Bor (List ℕ)) (Bor (List ℕ)) → Update (List ℕ) (List ℕ)
update_said coded update = update_map (λ word. key_bytes coded word.now) (λ block. block.now) update

-- a borrowed meta command, with the key of its word and the bytes that it borrows
abbrev pub meta_said : Bool → MetaCommand (Bor (List ℕ)) (Bor (List ℕ)) → MetaCommand (List ℕ) (List ℕ)
meta_said coded command = meta_map (λ word. key_bytes coded word.now) (λ block. block.now) command

-- the word of its key, or no bytes if it has none
abbrev pub word_in_meta : MetaCommand (Bor (List ℕ)) (Bor (List ℕ)) → List ℕ
word_in_meta command = option_map_or (λ word. word.now) (key_in_meta command) []

-- a storage command with this data block in place of its own
abbrev pub with_block : {K B C : Type 0} → Update K B → C → Update K C
with_block update block = update_map (λ key. key) (λ _. block) update
