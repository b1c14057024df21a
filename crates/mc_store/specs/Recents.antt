-- Entries by key, most recent first: this project's own, in std's words of a map.
use Rattle.std.specs.Prelude.{ℕ, List}
use Rattle.std.specs.Map.{set_value}
use Rattle.std.specs.Str.{bytes_eq}
use Rattle.mc_table.specs.Tables.{promoted}
use Rattle.mc_store.specs.declared.epoch_entries.EpochEntry.{EpochEntry}
use Rattle.mc_store.specs.Epochs.{Entries}

-- the key's entry moves to the front, with another value under the key
abbrev pub written : List ℕ → Entries → EpochEntry → Entries
written key entries held = set_value (bytes_eq key) (promoted (bytes_eq key) entries) held
