-- The state in which a history leaves a server.
use Rattle.std.specs.Prelude.{◌≡◌, ℕ, ◌≤◌, ◌==◌, List, [], ◌++◌, Option, Some, None, if◌then◌else◌}
use Rattle.mc_request.specs.Requests.{requests_of}
use Rattle.mc_request_reader.specs.Reader.{rest_of}
use Rattle.mc_request.specs.declared.parts.Parsed.{Parsed}
use Rattle.mc_cache.specs.CacheState.{CacheState}
use Rattle.mc_server.specs.Served.{ServedRequest}
use Rattle.mc_server.specs.Histories.{replayed, answers_to, taken_of, IsLegalHistory}
use Rattle.mc_server.specs.ServerState.{ConnectionState, ServerState, connection_at}

-- a cache after this history, which was made from an opening cache
pub record IsReplayed (opening : CacheState) (history : List ServedRequest) (now : CacheState) : Type 0 where
  pub legal : IsLegalHistory opening history
  pub cache : now ≡ replayed opening history

-- The connection of a number after a text has arrived, this history was made, and these bytes were taken out: what was
-- taken of it is the first of the text, in order, and what is left is the rest, whatever follows; the answers to it are
-- the bytes taken out and those that were not.
pub record Holds (opening : CacheState) (number : ℕ) (text : List ℕ) (history : List ServedRequest) (sent : List ℕ) (connection : ConnectionState) : Type 0 where
  pub rest : (more : List ℕ) → taken_of number history ++ rest_of connection.reader more ≡ requests_of (text ++ more)
  pub answered : sent ++ connection.output ≡ answers_to number opening history

-- Likewise if it is no longer open: what was taken of it is the first of the text, in order, and the bytes taken out
-- are the first of the answers to it.
pub record Left (opening : CacheState) (number : ℕ) (text : List ℕ) (history : List ServedRequest) (sent : List ℕ) : Type 0 where
  pub untaken : List Parsed
  pub rest : taken_of number history ++ untaken ≡ requests_of text
  pub unsent : List ℕ
  pub answered : sent ++ unsent ≡ answers_to number opening history

-- the state of the connection of a number, if it is open, or was left
abbrev pub ServerHoldsAt : CacheState → ℕ → List ℕ → List ServedRequest → List ℕ → Option ConnectionState → Type 0
ServerHoldsAt opening number text history sent None = Left opening number text history sent
ServerHoldsAt opening number text history sent (Some connection) = Holds opening number text history sent connection

-- a number that was not given yet: none is open, nothing has arrived or was taken, and no byte was taken out
pub record IsUnused (text : List ℕ) (taken : List Parsed) (sent : List ℕ) (connection : Option ConnectionState) : Type 0 where
  pub not_open : connection ≡ None
  pub nothing_came : text ≡ []
  pub nothing_taken : taken ≡ []
  pub nothing_sent : sent ≡ []

-- A server is as this history leaves it, given the texts that arrived at its connections and the bytes that were
-- taken out, both by number: the history is legal, the cache is the one after it, and each connection is as its part
-- of the history leaves it. A number is given at its admission, and none is used before.
pub record ServerHolds (opening : CacheState) (texts sent : ℕ → List ℕ) (history : List ServedRequest) (server : ServerState) : Type 0 where
  pub cache : IsReplayed opening history server.cache
  pub each : (number : ℕ) → ServerHoldsAt opening number (texts number) history (sent number) (connection_at server number)
  pub unused : (number : ℕ) → server.admitted ≤ number → IsUnused (texts number) (taken_of number history) (sent number) (connection_at server number)

-- bytes by number, of which one number has more
abbrev pub grown : ℕ → List ℕ → (ℕ → List ℕ) → ℕ → List ℕ
grown number more bytes at = bytes at ++ (if number == at then more else [])
