-- What an owner of a borrowed value ends as.
use Rattle.std.specs.Prelude.{Option}
use Rattle.std.specs.Borrow.{Fml, RattleType, MutBor, LendsIf}
use Rattle.mc_store.specs.declared.epoch_entries.EpochEntry.{EpochEntry}
use Rattle.mc_store.specs.contracts.epoch_entries.EpochEntry.{the_row}

-- it is as it was, with the last value written through r; at `None` it stays
abbrev pub lends_held : (R : RattleType) → MutBor R.Denot → Option (MutBor EpochEntry) → (EpochEntry → R.Denot) → Fml
lends_held R lender r with_value = LendsIf R the_row lender r with_value lender.now
