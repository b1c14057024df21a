-- The kinds of stores by their names. Source: this project's own.
use Rattle.std.specs.Prelude.{ℕ, List, codes, if◌then◌else◌}
use Rattle.std.specs.Str.{bytes_eq}
use Rattle.mc_serverd.specs.declared.kinds.StoreKind.{StoreKind}
use Rattle.mc_serverd.specs.declared.kinds.StoreKind.TheVariants.{Lru, Table}

-- the kind of a name: lru's, and the table of any other
abbrev pub kind_named : List ℕ → StoreKind
kind_named name = if bytes_eq name (codes "lru") then Lru else Table
