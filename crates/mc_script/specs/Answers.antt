-- The outputs of a script: the answers of one legal history.
use Rattle.std.specs.Prelude.{◌≡◌, ℕ, ◌==◌, nat_lt, Bool, List, [], ◌∷◌, ◌++◌, length, take, map, count_by, All, false, if◌then◌else◌}
use Rattle.std.specs.List.{flat_map, range_with_len}
use Rattle.mc_request.specs.Faults.{fault_line}
use Rattle.mc_request.specs.Requests.{requests_of}
use Rattle.mc_request.specs.declared.faults.Fault.TheVariants.{OutOfMemory}
use Rattle.mc_cache.specs.CacheState.{CacheState, opening_cache}
use Rattle.mc_server.specs.Served.{ServedRequest}
use Rattle.mc_server.specs.Histories.{answers_to, taken_of, turns_of, IsLegalHistory}
use Rattle.mc_script.specs.Scripts.{ScriptSeen}
use Rattle.mc_script.specs.declared.events.ServerEvent.{ServerEvent}
use Rattle.mc_script.specs.declared.events.ServerEvent.TheVariants.{Bytes, Turn}

-- the bytes that an event feeds to the connection of a number
abbrev pub bytes_fed : ℕ → ServerEvent → List ℕ
bytes_fed number (Bytes connection bytes) = if connection == number then bytes else []
bytes_fed number (Turn connection moment) = []

-- a connection's text: all bytes that the events feed to it
abbrev pub text_fed : ℕ → List ServerEvent → List ℕ
text_fed number events = flat_map (λ event. bytes_fed number event) events

-- how many of these turns, each a connection and a moment, are of the connection of a number
abbrev pub turns_by : ℕ → List (ℕ × ℕ) → ℕ
turns_by number turns = count_by (λ turn. turn.0 == number) turns

-- whether a turn of the connection of a number finds a request or fault, after these events, and after these turns
-- were served: its text so far has one more than were taken of it
abbrev pub finds_one : ℕ → List ServerEvent → List (ℕ × ℕ) → Bool
finds_one number before served = nat_lt (turns_by number served) (length (requests_of (text_fed number before)))

-- the turns that were served, with this event if it is a turn that finds one
abbrev pub served_with : List ServerEvent → List (ℕ × ℕ) → ServerEvent → List (ℕ × ℕ)
served_with before served (Bytes connection bytes) = served
served_with before served (Turn connection moment) =
    if finds_one connection before served then served ++ (connection, moment) ∷ [] else served

-- the turns that are served at the end, when these events remain
abbrev pub turns_served : List ServerEvent → List (ℕ × ℕ) → List ServerEvent → List (ℕ × ℕ)
turns_served before served [] = served
turns_served before served (event ∷ events) = turns_served (before ++ event ∷ []) (served_with before served event) events

-- the cache that a script begins with
abbrev pub cache_of : ScriptSeen → CacheState
cache_of script = opening_cache script.budget script.items 0

-- Outputs, one for each connection, answer a script: one legal history of the server has them. Of each connection it
-- takes the first requests and faults of that connection's text, in order. It has one entry for each turn line that
-- finds one, in the order of the lines, at that line's moment, and no others. The outputs are its answers.
pub record Answers (script : ScriptSeen) (outputs : List (List ℕ)) : Type 0 where
  pub history : List ServedRequest
  pub legal : IsLegalHistory (cache_of script) history
  pub taken : (number : ℕ) → taken_of number history ≡ take (length (taken_of number history)) (requests_of (text_fed number script.events))
  pub turns : turns_of history ≡ turns_served [] [] script.events
  pub answered : outputs ≡ map (λ number. answers_to number (cache_of script) history) (range_with_len 0 script.connections)

-- whether memory was refused, for each entry of a history
abbrev pub refusals_of : List ServedRequest → List Bool
refusals_of entries = map (λ e. e.refused) entries

-- outputs answer a script, and memory was refused to no store
pub record AnswersUnrefused (script : ScriptSeen) (outputs : List (List ℕ)) : Type 0 where
  pub answers : Answers script outputs
  pub granted : All (λ refused. refused ≡ false) (refusals_of answers.history)

-- some bytes have others as a part
pub record HasPart (bytes part : List ℕ) : Type 0 where
  pub before : List ℕ
  pub after : List ℕ
  pub is : bytes ≡ before ++ part ++ after

-- no output has the out-of-memory line as a part
abbrev pub TellNoRefusal : List (List ℕ) → Type 0
TellNoRefusal outputs = All (λ bytes. ¬ HasPart bytes (fault_line OutOfMemory)) outputs
