-- Scripts of events. Source: this project's own.
use Rattle.std.specs.Prelude.{ℕ, ◌^◌, List, [], ◌∷◌, Option, Some, None, Result, Ok, Err, option_and_then, codes, if◌then◌else◌}
use Rattle.std.specs.Option.{option_map}
use Rattle.std.specs.Str.{bytes_eq}
use Rattle.mc_script.specs.Escapes.{text_of}
use Rattle.mc_script.specs.Lines.{lines_from, cut_at_space}
use Rattle.mc_script.specs.Numbers.{limit_of, moment_read, place_of}
use Rattle.mc_script.specs.declared.events.ServerEvent.{ServerEvent}
use Rattle.mc_script.specs.declared.events.ServerEvent.TheVariants.{Bytes, Turn}

-- the content of a script
pub record ScriptSeen : Type 0 where
  pub connections : ℕ
  pub budget : ℕ
  pub items : ℕ
  pub events : List ServerEvent

infixl 10 ◌>>=◌
abbrev pub ◌>>=◌ : {A B : Type 0} → Option A → (A → Option B) → Option B
o >>= f = option_and_then f o

-- the connections, the budget and the items of a line `server <connections> <budget> <items>`
unfoldable pub server_of : List ℕ → Option (ℕ × ℕ × ℕ)
server_of line = do
  command ← cut_at_space line
  counts ← cut_at_space command.1
  limits ← cut_at_space counts.1
  connections ← limit_of 1024 counts.0
  budget ← limit_of (2 ^ 40) limits.0
  items ← limit_of (2 ^ 24) limits.1
  if bytes_eq command.0 (codes "server") then Some (connections, budget, items) else None

-- the event of a command, by its name, the connection's number, and the text after that
unfoldable pub event_named : List ℕ → ℕ → List ℕ → Option ServerEvent
event_named name connection rest =
    if bytes_eq name (codes "bytes") then option_map (λ bytes. Bytes connection bytes) (text_of rest)
    else if bytes_eq name (codes "turn") then option_map (λ moment. Turn connection moment) (moment_read rest)
    else None

-- the event of a line `bytes <connection> <text>` or `turn <connection> <moment>`, if there are this many connections
unfoldable pub event_of : ℕ → List ℕ → Option ServerEvent
event_of connections line = do
  command ← cut_at_space line
  rest ← cut_at_space command.1
  connection ← place_of connections rest.0
  event_named command.0 connection rest.1

-- an event in front of others: the first line that is none counts
abbrev pub with_event : ℕ → Option ServerEvent → Result (List ServerEvent) ℕ → Result (List ServerEvent) ℕ
with_event n None others = Err n
with_event n (Some event) (Ok events) = Ok (event ∷ events)
with_event n (Some event) (Err line) = Err line

-- the events of lines, or the number of the first line that is none
unfoldable pub events_of : ℕ → List (ℕ × List ℕ) → Result (List ServerEvent) ℕ
events_of connections [] = Ok []
events_of connections (line ∷ lines) = with_event line.0 (event_of connections line.1) (events_of connections lines)

-- a server and its events
abbrev pub with_events : ℕ × ℕ × ℕ → Result (List ServerEvent) ℕ → Result ScriptSeen ℕ
with_events server (Ok events) = Ok (record { connections = server.0; budget = server.1; items = server.2; events = events })
with_events server (Err line) = Err line

-- a server's line in front of others
abbrev pub with_server : ℕ → Option (ℕ × ℕ × ℕ) → List (ℕ × List ℕ) → Result ScriptSeen ℕ
with_server n None lines = Err n
with_server n (Some server) lines = with_events server (events_of server.0 lines)

-- the script of lines: the first one is the server's, and if there is none, line 1 is bad
unfoldable pub script_of_lines : List (ℕ × List ℕ) → Result ScriptSeen ℕ
script_of_lines [] = Err 1
script_of_lines (line ∷ lines) = with_server line.0 (server_of line.1) lines

-- the script that a text is, or the number of its first bad line
abbrev pub script_of : List ℕ → Result ScriptSeen ℕ
script_of input = script_of_lines (lines_from 1 input)
