-- What a table ends as, once a reference into it has ended.
use Rattle.std.specs.Prelude.{ℕ, Bool, List, Option}
use Rattle.std.specs.Borrow.{Fml, RattleType, MutBor, Lends, LendsIf}
use Rattle.std.specs.HashMap.Lent.{HashMembers}
use Rattle.std.specs.Map.{set_value}
use Rattle.std.specs.declared.hash.Hasher as hasher
use Rattle.std.specs.declared.hash.BuildHasher as builder
use Rattle.mc_table.specs.Tables.{with_value}
use Rattle.mc_table.specs.contracts.tables.Table.{the_row}
use Rattle.mc_table.specs.contracts.hash_indexes.HashIndex.{the_row as chained_row}

module _ (K V S H : RattleType) (key : HashMembers K.Denot) (build : builder.Ghosts S.Denot H.Denot) (hash : hasher.Ghosts H.Denot) (t : MutBor (List (K.Denot × V.Denot))) where
  -- it has the entries es, with the last value written through r at the key that passes the test; at `None` it stays
  abbrev pub lends_value : (K.Denot → Bool) → List (K.Denot × V.Denot) → Option (MutBor V.Denot) → Fml
  lends_value test es r = LendsIf (the_row K V S H (record { eq = key.eq }) (record { hash_input = key.hash_input }) build hash) V t r (λ w. set_value test es w) t.now

  -- it has the last value written through r at an index
  abbrev pub lends_at : ℕ → MutBor V.Denot → Fml
  lends_at i r = Lends (chained_row K V S H (record { eq = key.eq }) (record { hash_input = key.hash_input }) build hash) V t r (λ w. with_value t.now i w)
