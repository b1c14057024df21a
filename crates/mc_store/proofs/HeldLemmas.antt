-- What a table's words say of entries whose keys are bytes.
use Rattle.std.proofs.Common.{◌≡◌, ℕ, true, false, cond, List, [], ◌∷◌, Option, Some, None, refl, sym}
use Rattle.std.specs.Cmp.Lexicographic.{same_text, nat_list_eq_equiv}
use Rattle.std.specs.Str.{bytes_eq}
use Rattle.std.specs.Map.{lookup, lookup_entry, remove_entry, set_value}
use Rattle.std.specs.Option.{option_map}
use Rattle.mc_table.specs.Tables.{promoted}
use Rattle.mc_store.specs.declared.epoch_entries.EpochEntry.{EpochEntry}
use Rattle.mc_store.specs.Epochs.{Entries}

-- what is stored under a key
abbrev pub held_at : List ℕ → Entries → Option EpochEntry
held_at key [] = None
held_at key (entry ∷ entries) = cond (bytes_eq entry.0 key) (Some entry.1) (held_at key entries)

-- the entries without the first of a key
abbrev pub cut : List ℕ → Entries → Entries
cut key [] = []
cut key (entry ∷ entries) = cond (bytes_eq entry.0 key) entries (entry ∷ cut key entries)

-- what a look-up finds is what is stored
pub lookup_is : (key : List ℕ) (entries : Entries) → lookup (bytes_eq key) entries ≡ held_at key entries
lookup_is key [] = refl
lookup_is key (entry ∷ entries) = rw (nat_list_eq_equiv.symm key entry.0, lookup_is key entries) refl

-- what is left is what is left
pub remove_is : (key : List ℕ) (entries : Entries) → remove_entry (bytes_eq key) entries ≡ cut key entries
remove_is key [] = refl
remove_is key (entry ∷ entries) = rw (nat_list_eq_equiv.symm key entry.0, remove_is key entries) refl

-- the entry that a look-up finds has the key
pub entry_is : (key : List ℕ) (entries : Entries) → lookup_entry (bytes_eq key) entries ≡ option_map (λ (held : EpochEntry). (key, held)) (held_at key entries)
entry_is key [] = refl
entry_is key (entry ∷ entries) =
    let again : lookup_entry (bytes_eq key) entries ≡ option_map (λ (held : EpochEntry). (key, held)) (held_at key entries) = entry_is key entries in
    rw (nat_list_eq_equiv.symm key entry.0) ((elim (bytes_eq entry.0 key) as (λ v. bytes_eq entry.0 key ≡ v
    → cond v (Some entry) (lookup_entry (bytes_eq key) entries) ≡ option_map (λ (held : EpochEntry). (key, held))
    (cond v (Some entry.1) (held_at key entries))) [
      | true ↦ λ same. let own : entry.0 ≡ key = same_text entry.0 key (sym same) in rw (sym own) refl
      | false ↦ λ differ. again
    ]) refl)

-- an entry that is promoted goes first
pub promoted_is : (key : List ℕ) (entries : Entries) (held : EpochEntry) → held_at key entries ≡ Some held
    → promoted (bytes_eq key) entries ≡ (key, held) ∷ cut key entries
promoted_is key entries held at = rw (entry_is key entries, at, remove_is key entries) refl

-- what is written to it is first
pub set_is : (key : List ℕ) (entries : Entries) (held after : EpochEntry) → held_at key entries ≡ Some held
    → set_value (bytes_eq key) (promoted (bytes_eq key) entries) after ≡ (key, after) ∷ cut key entries
set_is key entries held after at = rw (promoted_is key entries held at, nat_list_eq_equiv.refl key) refl
