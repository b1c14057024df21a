-- The commands that all servers executed, in one order: that of their turns in the log. All of it is this
-- project's own.
use Rattle.std.specs.Prelude.{ℕ, ◌==◌, List, [], ◌∷◌, ◌++◌, drop, if◌then◌else◌, Option, Some, None, slice_get}
use Rattle.std.specs.Option.{option_map}
use Rattle.mc_request.specs.declared.parts.Parsed.{Parsed}
use Rattle.mc_request.specs.Requests.{requests_of}
use Rattle.mc_reply.specs.declared.replies.Reply.{Reply}
use Rattle.mc_reply.specs.Spelling.{spelling_of}
use Rattle.mc_ring.specs.Rings.{RingState}
use Rattle.mc_route.specs.Routes.{route_of_taken}
use Rattle.mc_route.specs.declared.routes.Routed.{Routed}
use Rattle.mc_link.specs.declared.turns.Tag.{Tag}
use Rattle.mc_cache.specs.Replay.{Command}
use Rattle.mc_cache_laws.specs.Pools.{Executed}
use Rattle.mc_history.specs.declared.entries.Entry.{Entry}
use Rattle.mc_history.specs.Histories.{tag_in}
use Rattle.mc_world.specs.declared.events.Event.TheVariants.{ServerTurn}
use Rattle.mc_world.specs.declared.logs.Logged.{Logged}
use Rattle.mc_world.specs.declared.logs.Logged.TheVariants.{Happened}
use Rattle.mc_world.specs.Logs.{Log}

-- a way to look up commands by their tags: in an order (`command_at`), or in what clients sent (`sent_at`)
abbrev pub LookUp : Type 0
LookUp = Tag → Option Routed

-- the command of a number of a request that a client sent, by the ring
abbrev pub command_sent : RingState → Option Parsed → ℕ → Option Routed
command_sent ring None atom = None
command_sent ring (Some what) atom = slice_get (route_of_taken ring what) atom

-- the command of a tag, as the client's text has it, with the place of its server by a ring that stays
abbrev pub sent_at : RingState → (ℕ → List ℕ) → LookUp
sent_at ring texts tag = command_sent ring (slice_get (requests_of (texts tag.session)) tag.request) tag.atom

-- a command as an entry records it: its moment, and whether memory was refused to it
abbrev pub command_in_entry : Entry → Routed → Command
command_in_entry e command = record { atom = command.atom; moment = e.moment; refused = e.refused }

-- the command of an entry: none if none is found by its tag
abbrev pub command_of : LookUp → Entry → Option Command
command_of look e = option_map (command_in_entry e) (look (tag_in e))

-- the list with one more command, if there is one
abbrev pub with_command : Option Command → List Command → List Command
with_command None commands = commands
with_command (Some command) commands = command ∷ commands

-- the commands of a history
abbrev pub commands_of : LookUp → List Entry → List Command
commands_of look [] = []
commands_of look (e ∷ es) = with_command (command_of look e) (commands_of look es)

-- the places of the servers that took a request, one for each turn, in the order of the log
abbrev pub turn_of : Logged → List ℕ
turn_of (Happened (ServerTurn proxy server generation moment)) = server ∷ []
turn_of other = []

abbrev pub turns_of : Log → List ℕ
turns_of [] = []
turns_of (e ∷ es) = turn_of e ++ turns_of es

-- the first of these commands, executed by the server of a place
abbrev pub first_at : ℕ → List Command → List Executed
first_at place [] = []
first_at place (command ∷ commands) = record { place = place; command = command } ∷ []

-- the commands that each server has yet to execute, after a turn of this one
abbrev pub after_turn : ℕ → (ℕ → List Command) → ℕ → List Command
after_turn place commands other = if place == other then drop 1 (commands other) else commands other

-- the commands of all servers in one order: at each turn the next one of its server
abbrev pub merged : (ℕ → List Command) → List ℕ → List Executed
merged commands [] = []
merged commands (place ∷ places) = first_at place (commands place) ++ merged (after_turn place commands) places

-- what all servers executed: at each turn of the log the command of the next entry in its server's history
abbrev pub executed : LookUp → (ℕ → List Entry) → Log → List Executed
executed look histories log = merged (λ place. commands_of look (histories place)) (turns_of log)

-- the encodings of the replies to commands, one for each
abbrev pub reply_texts : List Command → List (Reply (List ℕ)) → List (List ℕ)
reply_texts [] replies = []
reply_texts (command ∷ commands) [] = []
reply_texts (command ∷ commands) (reply ∷ replies) = spelling_of command.atom reply ∷ reply_texts commands replies
