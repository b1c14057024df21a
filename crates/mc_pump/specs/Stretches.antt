-- A stretch of one connection of a server: what arrived, what was taken and served, and what was sent.
use Rattle.std.specs.Prelude.{◌≡◌, ℕ, ◌≤◌, List, [], ◌∷◌, ◌++◌, length, Some}
use Rattle.mc_request_reader.specs.Reader.{rest_of}
use Rattle.mc_server.specs.Served.{ServedRequest}
use Rattle.mc_server.specs.Histories.{answers_to, taken_of}
use Rattle.mc_server.specs.ServerState.{ConnectionState, ServerState, connection_at, updated}
use Rattle.mc_server.specs.Holds.{IsReplayed}
use Rattle.mc_pump.specs.declared.limits.TheConstants.{UNSENT_MARK}

-- each entry is of this connection, at this moment
abbrev pub AreOwn : ℕ → ℕ → List ServedRequest → Type 0
AreOwn number moment [] = Unit {0}
AreOwn number moment (e ∷ es) = (e.connection ≡ number) × (e.moment ≡ moment) × AreOwn number moment es

-- The requests and faults taken are the first that the connection's rest has for the bytes that arrived, and the others stay. The
-- cache is the one after their commands, all at the moment. The sent bytes and the output that is left are the old output and
-- their answers. All else of the server is as it was. While the unsent bytes reach the mark, nothing arrives and nothing is taken.
pub record ConnectionStretch (number moment : ℕ) (old new : ServerState) (came went : List ℕ) : Type 0 where
  pub before : ConnectionState
  pub after : ConnectionState
  pub was : connection_at old number ≡ Some before
  pub is : new.connections ≡ updated number after old.connections
  pub admitted : new.admitted ≡ old.admitted
  pub history : List ServedRequest
  pub own : AreOwn number moment history
  pub cache : IsReplayed old.cache history new.cache
  pub rest : (text : List ℕ) → rest_of before.reader (came ++ text) ≡ taken_of number history ++ rest_of after.reader text
  pub answered : went ++ after.output ≡ before.output ++ answers_to number old.cache history
  pub marked : UNSENT_MARK ≤ length before.output → went ≡ [] → (history ≡ []) × (came ≡ [])
