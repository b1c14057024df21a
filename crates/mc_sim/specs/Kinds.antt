-- The kinds of stores by their names. Source: this project's own.
use Rattle.std.specs.Prelude.{ℕ, List, codes, if◌then◌else◌}
use Rattle.std.specs.Str.{bytes_eq}
use Rattle.mc_sim.specs.declared.kinds.StoreKind.{StoreKind}
use Rattle.mc_sim.specs.declared.kinds.StoreKind.TheVariants.{List as ListKind, Lru, Table}

-- the kind of a name: `list` or `table`, and `lru` for any other
abbrev pub kind_named : List ℕ → StoreKind
kind_named name = if bytes_eq name (codes "list") then ListKind else (if bytes_eq name (codes "table") then Table else Lru)
