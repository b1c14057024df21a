-- What the parts of a round do.
use Rattle.std.specs.Prelude.{◌≡◌, ℕ, ◌<◌, ◌≤◌, ◌||◌, nat_lt, Bool, true, false, not, List, [], length, Option, Result, Ok, Err}
use Rattle.mc_server.specs.ServerState.{ConnectionState, ServerState, connection_at, output_of}
use Rattle.mc_server.specs.Turns.{waiting_of, is_closed_at}
use Rattle.mc_stream.specs.Sides.{CarriesBy, HowItCame, HowItWent}
use Rattle.mc_pump.specs.Counts.{Counted, CountsWithin}
use Rattle.mc_pump.specs.Pumps.{Leaves}
use Rattle.mc_pump.specs.Stretches.{ConnectionStretch}
use Rattle.mc_pump.specs.Unsent.{IsUnsentWithin}
use Rattle.mc_pump.specs.declared.limits.TheConstants.{UNSENT_MARK}
use Rattle.mc_stream.specs.declared.outcomes.Pumped.{Pumped}
use Rattle.mc_pump.specs.declared.rounds.Stop.{Stop}
use Rattle.mc_pump.specs.declared.rounds.Stop.TheVariants.{Idle, Closing, Marked, Spent}

-- turns, and what the watch counts of them
pub record TakesTurns (number moment : ℕ) (old new : ServerState) (count count' : Counted) : Type 0 where
  pub stretch : ConnectionStretch number moment old new [] []
  pub counted : CountsWithin old.cache stretch.history count count'
  pub unsent : IsUnsentWithin count.most (connection_at old number) (connection_at new number)

-- why the turns of a round stopped
abbrev pub StopsAt : Stop → Option ConnectionState → Type 0
StopsAt Idle connection = (waiting_of connection ≡ []) × (length (output_of connection) < UNSENT_MARK) × (is_closed_at connection ≡ false)
StopsAt Closing connection = (waiting_of connection ≡ []) × (is_closed_at connection ≡ true)
StopsAt Marked connection = UNSENT_MARK ≤ length (output_of connection)
StopsAt Spent connection = Unit {0}

-- whether nothing more will arrive, if the turns stopped so: the input has ended, or is read no further
abbrev pub ends_by : Stop → (ended : Bool) → Bool
ends_by Idle ended = ended
ends_by Closing ended = true
ends_by Marked ended = false
ends_by Spent ended = false

-- whether the turns stopped because the quantum is spent, or there is no room for the next answer
abbrev pub is_spent : Stop → Bool
is_spent Spent = true
is_spent other = false

-- whether the input is read on
abbrev pub reads_by : Stop → (ended : Bool) → Bool
reads_by Idle ended = not ended
reads_by other ended = false

-- whether a read moved anything: bytes arrived, or the end
abbrev pub moved_of : Result ℕ Pumped → (ended : Bool) → Result Bool Pumped
moved_of (Ok count) ended = Ok (nat_lt 0 count || ended)
moved_of (Err pump) ended = Err pump

-- a connection of which some was sent: all else of it is as it was
pub record IsSentOf (old new : Option ConnectionState) : Type 0 where
  pub waits : waiting_of new ≡ waiting_of old
  pub closed : is_closed_at new ≡ is_closed_at old
  pub fewer : length (output_of new) ≤ length (output_of old)

-- a write of what is unsent: nothing is taken, and nothing is counted
pub record Sends (number moment : ℕ) (side : Result Bool Pumped) (old new : ServerState) (written written' : Option (List ℕ)) (count count' : Counted) : Type 0 where
  pub went : List ℕ
  pub stretch : ConnectionStretch number moment old new [] went
  pub untaken : stretch.history ≡ []
  pub uncounted : count' ≡ count
  pub how : HowItWent side written written' went (new ≡ old)
  pub same : IsSentOf (connection_at old number) (connection_at new number)

-- a read, of which the connection is fed: nothing is taken, and nothing is counted
pub record Receives (number moment : ℕ) (side : Result Bool Pumped) (old new : ServerState) (unread unread' : Option (List ℕ)) (ended' : Bool) (count count' : Counted) : Type 0 where
  pub came : List ℕ
  pub stretch : ConnectionStretch number moment old new came []
  pub untaken : stretch.history ≡ []
  pub uncounted : count' ≡ count
  pub how : HowItCame side unread unread' ended' came (new ≡ old)

-- a part of a pump, and what the watch counts of it
pub record PumpsPart (number moment : ℕ) (pump : Pumped) (old new : ServerState) (unread unread' written written' : Option (List ℕ)) (ended ended' : Bool) (count count' : Counted) : Type 0 where
  pub came : List ℕ
  pub went : List ℕ
  pub stretch : ConnectionStretch number moment old new came went
  pub carried : CarriesBy pump unread unread' written written' ended ended' came went
  pub left : Leaves pump ended' (connection_at new number)
  pub counted : CountsWithin old.cache stretch.history count count'
  pub unsent : IsUnsentWithin count.most (connection_at old number) (connection_at new number)
