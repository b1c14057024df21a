-- Entries of several epochs, most recent first: this project's own.
use Rattle.std.specs.Prelude.{◌≡◌, ℕ, zero, suc, ◌+◌, ◌<◌, ◌≤◌, ◌⊎◌, ◌++◌, List, [], ◌∷◌, length, drop, Option, IfSome}
use Rattle.std.specs.Map.{remove_entry}
use Rattle.std.specs.Str.{bytes_eq}
use Rattle.mc_item.specs.Costs.{cost_of}
use Rattle.mc_store.specs.declared.epoch_entries.EpochEntry.{EpochEntry}
use Rattle.mc_store.specs.Items.{Items}

-- keys, and what is stored under them
abbrev pub Entries : Type 0
Entries = List (List ℕ × EpochEntry)

-- the items of the first n entries
abbrev pub live : ℕ → Entries → Items
live zero entries = []
live (suc count) [] = []
live (suc count) (entry ∷ entries) = (entry.0, entry.1.body) ∷ live count entries

-- all entries are of earlier epochs
abbrev pub AreDead : ℕ → Entries → Type 0
AreDead epoch [] = Unit {0}
AreDead epoch (entry ∷ entries) = (entry.1.epoch < epoch) × AreDead epoch entries

-- the first n entries are of this epoch, and the others of earlier ones
abbrev pub IsParted : ℕ → ℕ → Entries → Type 0
IsParted epoch zero entries = AreDead epoch entries
IsParted epoch (suc count) [] = ⊥
IsParted epoch (suc count) (entry ∷ entries) = (entry.1.epoch ≡ epoch) × IsParted epoch count entries

-- there is room for n
abbrev pub HasRoom : ℕ → Option ℕ → Type 0
HasRoom most room = IfSome room (λ entries. most ≤ entries)

-- what a contract sees of such entries: the live items and the dead entries, most recent first, and the most items
pub record LiveAndDead : Type 0 where
  pub items : Items
  pub dead : Entries
  pub most : ℕ

-- what entries cost
abbrev pub entry_costs : Entries → ℕ
entry_costs [] = 0
entry_costs (entry ∷ entries) = cost_of entry.0 entry.1.body.value + entry_costs entries

-- entries are freed from the back, none of the first `count`: all others, or at least two that cost at least `price`;
-- and no more than that takes: without the last one that was freed they were fewer than two, or cost less
pub record IsLetGo (price count : ℕ) (before after : Entries) : Type 0 where
  pub gone : Entries
  pub parts : before ≡ after ++ gone
  pub stay : count ≤ length after
  pub enough : (length after ≡ count) ⊎ ((2 ≤ length gone) × (price ≤ entry_costs gone))
  pub no_more : (length gone ≤ 2) ⊎ (entry_costs (drop 1 gone) < price)

-- dead entries are freed so, and then the one of a key
pub record IsGivenBack (key : List ℕ) (price : ℕ) (before after : Entries) : Type 0 where
  pub left : Entries
  pub go : IsLetGo price 0 before left
  pub own : after ≡ remove_entry (bytes_eq key) left
