-- The printed account of a world that has played a script, line by line. Source: this project's
-- own.
use Rattle.std.specs.Prelude.{ℕ, Bool, List, [], ◌++◌, length, map, codes, decimal, if◌then◌else◌}
use Rattle.std.specs.List.{flat_map, range_with_len}
use Rattle.mc_history.specs.declared.entries.Entry.{Entry}
use Rattle.mc_script.specs.Escapes.{named_line, named_lines}
use Rattle.mc_world.specs.Worlds.{CourseState, history_of, text_of}
use Rattle.mc_world.specs.declared.errors.Step.{Step}
use Rattle.mc_world.specs.declared.errors.Step.TheVariants.{Done, Nothing}

-- what a step did, in a word
abbrev pub word_of : Step → List ℕ
word_of Done = codes "done"
word_of Nothing = codes "nothing"

-- a line for each event, in order
abbrev pub event_lines : List Step → List ℕ
event_lines steps = named_lines (codes "event") (map word_of steps)

-- a line for each client, with all that it sent
abbrev pub text_lines : ℕ → CourseState → List ℕ
text_lines clients course = named_lines (codes "text") (map (λ client. text_of course client) (range_with_len 0 clients))

-- words and a number
abbrev pub numbered : List ℕ → ℕ → List ℕ
numbered words number = words ++ decimal number

-- the words for a store that was refused memory
abbrev pub refusal_words : Bool → List ℕ
refusal_words refused = if refused then codes ", refused" else []

-- the name of an entry: its client, and whether its store was refused memory
abbrev pub entry_name : ℕ → Entry → List ℕ
entry_name place e =
    numbered (codes "server ") place ++ numbered (codes ", client ") e.client ++ numbered (codes ", request ") e.request
    ++ numbered (codes ", command ") e.atom ++ refusal_words e.refused ++ codes ", moment"

-- the line of an entry of a server's history
abbrev pub entry_line : ℕ → Entry → List ℕ
entry_line place e = named_line (entry_name place e) e.moment e.reply

-- the lines of a server: how many commands it took, and each of them
abbrev pub history_lines : ℕ → List Entry → List ℕ
history_lines place entries =
    named_line (codes "history") place (decimal (length entries)) ++ flat_map (λ e. entry_line place e) entries

-- the lines of the first servers, in order
abbrev pub histories_lines : ℕ → CourseState → List ℕ
histories_lines servers course = flat_map (λ place. history_lines place (history_of course place)) (range_with_len 0 servers)

-- the account of a run: what each event did, what each client sent, and what each server took
abbrev pub account_lines : List Step → ℕ → ℕ → CourseState → List ℕ
account_lines steps clients servers course = event_lines steps ++ text_lines clients course ++ histories_lines servers course
