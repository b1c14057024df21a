-- Turns whose answers may be written at once.
use Rattle.std.specs.Prelude.{ℕ, List, [], Option}
use Rattle.std.specs.Io.KnownBytes.{Appends}
use Rattle.mc_server.specs.ServerState.{ServerState, connection_at}
use Rattle.mc_pump.specs.Counts.{Counted, CountsWithin}
use Rattle.mc_pump.specs.Stretches.{ConnectionStretch}
use Rattle.mc_pump.specs.Unsent.{IsUnsentWithin}

-- turns, what the writer took of their answers, and what the watch counts of them
pub record GathersTurns (number moment : ℕ) (old new : ServerState) (written written' : Option (List ℕ)) (count count' : Counted) : Type 0 where
  pub went : List ℕ
  pub stretch : ConnectionStretch number moment old new [] went
  pub appended : Appends written written' went
  pub counted : CountsWithin old.cache stretch.history count count'
  pub unsent : IsUnsentWithin count.most (connection_at old number) (connection_at new number)
