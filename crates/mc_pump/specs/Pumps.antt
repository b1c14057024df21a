-- What a pump does between a server and the two sides of a stream.
use Rattle.std.specs.Prelude.{◌≡◌, ℕ, ◌≤◌, ◌<◌, ◌⊎◌, Bool, true, List, [], length, Option}
use Rattle.mc_server.specs.ServerState.{ConnectionState, ServerState, connection_at, output_of}
use Rattle.mc_server.specs.Turns.{waiting_of, is_closed_at, is_foreign_at}
use Rattle.mc_stream.specs.Sides.{CarriesBy}
use Rattle.mc_pump.specs.Counts.{Counts}
use Rattle.mc_pump.specs.Work.{IsWithin}
use Rattle.mc_pump.specs.Stretches.{ConnectionStretch}
use Rattle.mc_pump.specs.declared.limits.TheConstants.{QUANTUM, UNSENT_MARK}
use Rattle.mc_stream.specs.declared.outcomes.Pumped.{Pumped}
use Rattle.mc_stream.specs.declared.outcomes.Pumped.TheVariants.{Blocked, Done}

-- nothing is left to serve or to send, and nothing more will arrive: the input has ended, or is read no further
pub record IsOver (ended : Bool) (connection : Option ConnectionState) : Type 0 where
  pub none_waits : waiting_of connection ≡ []
  pub all_sent : output_of connection ≡ []
  pub no_more : (ended ≡ true) ⊎ (is_closed_at connection ≡ true)

-- A connection is not over, but can go no further by itself: no whole request is pending, or the unsent bytes reach the mark.
pub record IsStuck (ended : Bool) (connection : Option ConnectionState) : Type 0 where
  pub taken : (waiting_of connection ≡ []) ⊎ (UNSENT_MARK ≤ length (output_of connection))
  pub goes_on : IsOver ended connection → ⊥

-- a connection whose next line is one of an HTTP request, and of which less is unsent than the mark
abbrev pub IsBarred : Option ConnectionState → Type 0
IsBarred connection = (is_foreign_at connection ≡ true) × (length (output_of connection) < UNSENT_MARK)

-- how a connection is left: done if it is over, blocked if it is stuck
abbrev pub Leaves : Pumped → Bool → Option ConnectionState → Type 0
Leaves Blocked ended connection = IsStuck ended connection
Leaves Done ended connection = IsOver ended connection
Leaves other ended connection = Unit {0}

-- What a pump of the connection of a number at a moment does, and how its watch counts the stores of just this stretch that are refused for
-- lack of memory. It serves each request of this stretch only while work is left of its quantum.
pub record Pumps (number moment : ℕ) (pump : Pumped) (old new : ServerState) (unread unread' written written' : Option (List ℕ)) (ended ended' : Bool) (count count' : ℕ) : Type 0 where
  pub came : List ℕ
  pub went : List ℕ
  pub stretch : ConnectionStretch number moment old new came went
  pub carried : CarriesBy pump unread unread' written written' ended ended' came went
  pub left : Leaves pump ended' (connection_at new number)
  pub counted : Counts old.cache stretch.history count count'
  pub within : IsWithin QUANTUM old.cache stretch.history
