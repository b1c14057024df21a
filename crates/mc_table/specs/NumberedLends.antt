-- What the entries are after a change of one of them.
use Rattle.std.specs.Prelude.{ℕ, Option, slice_index_or, slice_set}
use Rattle.std.specs.Borrow.{Lends, LendsIf, Fml, RattleType, MutBor}
use Rattle.mc_table.specs.Entries.{Numbering, updated}
use Rattle.mc_table.specs.contracts.numbered.Numbered.{the_row}

module _ (T : RattleType) (n : MutBor (Numbering T.Denot)) where
  -- the entry at a place is as it was left, under its number
  abbrev pub LendsPlace : ℕ → MutBor T.Denot → Fml
  LendsPlace place r =
      Lends (the_row T) T n r (λ w. record n.now { entries = slice_set n.now.entries place ((slice_index_or n.now.entries place (0, w)).0, w) })

  -- the entry of a number is as it was left; if none has the number nothing changes
  abbrev pub LendsEntry : ℕ → Option (MutBor T.Denot) → Fml
  LendsEntry number r = LendsIf (the_row T) T n r (λ w. record n.now { entries = updated number w n.now.entries }) n.now
