-- A server that plays the events of a script.
use Rattle.std.specs.Prelude.{ℕ, List, map}
use Rattle.std.specs.List.{range_with_len}
use Rattle.mc_cache.specs.CacheState.{CacheState}
use Rattle.mc_server.specs.ServerState.{ServerState, connection_at, fresh_connection, output_of}
use Rattle.mc_server.specs.Turns.{Feeds, IsTurn, Steps}
use Rattle.mc_server.specs.declared.turns.Turn.{Turn as Turned}
use Rattle.mc_script.specs.declared.events.ServerEvent.{ServerEvent}
use Rattle.mc_script.specs.declared.events.ServerEvent.TheVariants.{Bytes, Turn}

-- a server over a cache that has admitted this number of connections, from which no byte has
-- arrived
abbrev pub opened : CacheState → ℕ → ServerState
opened cache count = record {
  cache = cache;
  connections = map (λ number. (number, fresh_connection)) (range_with_len 0 count);
  admitted = count;
}

-- the event's connection is fed, or takes a turn at the event's moment
abbrev pub Plays : ServerEvent → ServerState → ServerState → Type 0
Plays (Bytes connection bytes) old new = Steps connection old new (Feeds bytes)
Plays (Turn connection moment) old new = (turned : Turned) × Steps connection old new (IsTurn connection moment turned)

-- the outputs of the first connections, in order
abbrev pub outputs_of : ℕ → ServerState → List (List ℕ)
outputs_of count server = map (λ number. output_of (connection_at server number)) (range_with_len 0 count)
