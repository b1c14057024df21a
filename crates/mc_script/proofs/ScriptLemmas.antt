-- The events of a script, from the first line on.
use Rattle.std.proofs.Common.{◌≡◌, ℕ, true, false, List, [], ◌∷◌, ◌++◌, Option, Some, None, Result, Ok, Err, refl, sym, ap, append-nil, append_assoc}
use Rattle.std.specs.Prelude.{is_some}
use Rattle.std.specs.Result.{result_err}
use Rattle.mc_script.specs.Scripts.{events_of, event_of, with_event, script_of_lines, server_of, with_events}
use Rattle.mc_script.specs.ScriptSeen.{Explains}
use Rattle.mc_script.specs.declared.errors.SimError.{SimError}
use Rattle.mc_script.specs.declared.errors.SimError.TheVariants.{BadLine, Stream, Memory}
use Rattle.mc_script.specs.declared.events.ServerEvent.{ServerEvent}

-- events in front of those of lines
abbrev pub with_front : List ServerEvent → Result (List ServerEvent) ℕ → Result (List ServerEvent) ℕ
with_front front (Ok events) = Ok (front ++ events)
with_front front (Err line) = Err line

-- one more event
pub with_front-more : (front : List ServerEvent) (n : ℕ) (event : ServerEvent) (r : Result (List ServerEvent) ℕ) → with_front front (with_event n (Some event) r) ≡ with_front (front ++ event ∷ []) r
with_front-more front n event (Ok events) = ap (λ (es : List ServerEvent). Ok es) (sym (append_assoc front (event ∷ []) events))
with_front-more front n event (Err line) = refl

-- a line that is an event
pub events_of-event : (connections : ℕ) (front out : List ServerEvent) (n : ℕ) (line : List ℕ) (lines rest : List (ℕ × List ℕ)) (event : ServerEvent)
    → lines ≡ (n, line) ∷ rest → event_of connections line ≡ Some event → out ≡ front ++ event ∷ []
    → with_front out (events_of connections rest) ≡ with_front front (events_of connections lines)
unfolding events_of
events_of-event connections front out n line lines rest event first is more = rw (first, is, more) (sym (with_front-more front n event (events_of connections rest)))

-- a line that is no event
pub events_of-bad : (connections : ℕ) (front : List ServerEvent) (n : ℕ) (line : List ℕ) (lines rest : List (ℕ × List ℕ))
    → lines ≡ (n, line) ∷ rest → event_of connections line ≡ None → with_front front (events_of connections lines) ≡ Err n
unfolding events_of
events_of-bad connections front n line lines rest first none = rw (first, none) refl

-- no more lines
pub events_of-nil : (connections : ℕ) (front : List ServerEvent) (lines : List (ℕ × List ℕ)) → lines ≡ []
    → with_front front (events_of connections lines) ≡ Ok front
unfolding events_of
events_of-nil connections front lines none = rw none (ap (λ (es : List ServerEvent). Ok es) (append-nil front))

-- a script without lines
pub script_of_lines-nil : (lines : List (ℕ × List ℕ)) → lines ≡ [] → script_of_lines lines ≡ Err 1
unfolding script_of_lines
script_of_lines-nil lines none = rw none refl

-- a first line that is no server's
pub script_of_lines-bad : (n : ℕ) (line : List ℕ) (lines rest : List (ℕ × List ℕ)) → lines ≡ (n, line) ∷ rest → server_of line ≡ None → script_of_lines lines ≡ Err n
unfolding script_of_lines
script_of_lines-bad n line lines rest first none = rw (first, none) refl

-- a first line that is a server's, before the result of the others
pub script_of_lines-server : (n : ℕ) (line : List ℕ) (lines rest : List (ℕ × List ℕ)) (server : ℕ × ℕ × ℕ) → lines ≡ (n, line) ∷ rest → server_of line ≡ Some server
    → script_of_lines lines ≡ with_events server (events_of server.0 rest)
unfolding script_of_lines
script_of_lines-server n line lines rest server first is = rw (first, is) refl

-- a bad line among the events is one of the script
pub explains-more : (e : SimError) (server : ℕ × ℕ × ℕ) (events : Result (List ServerEvent) ℕ) → Explains e events → Explains e (with_events server events)
explains-more (BadLine m) server events h = rw h refl
explains-more (Stream side) server events h = h
explains-more Memory server events h = tt

-- after a line that is an event the first bad line stays
past_event : (event : Option ServerEvent) (n : ℕ) (events : Result (List ServerEvent) ℕ) → is_some event ≡ true
    → result_err events ≡ result_err (with_event n event events)
past_event None n events some = absurd cc
past_event (Some event) n (Ok events) some = refl
past_event (Some event) n (Err line) some = refl

pub bad_line-past : (connections n : ℕ) (line : List ℕ) (lines rest : List (ℕ × List ℕ)) → lines ≡ (n, line) ∷ rest → is_some (event_of connections line) ≡ true
    → result_err (events_of connections rest) ≡ result_err (events_of connections lines)
unfolding events_of
bad_line-past connections n line lines rest first some = rw first (past_event (event_of connections line) n (events_of connections rest) some)

-- a line that is no event is the first bad one
no_event : (event : Option ServerEvent) (n : ℕ) (events : Result (List ServerEvent) ℕ) → is_some event ≡ false → Some n ≡ result_err (with_event n event events)
no_event None n events none = refl
no_event (Some event) n events none = absurd cc

pub bad_line-here : (connections n : ℕ) (line : List ℕ) (lines rest : List (ℕ × List ℕ)) → lines ≡ (n, line) ∷ rest → is_some (event_of connections line) ≡ false
    → Some n ≡ result_err (events_of connections lines)
unfolding events_of
bad_line-here connections n line lines rest first none = rw first (no_event (event_of connections line) n (events_of connections rest) none)

-- if no line is left, none is bad
pub bad_line-nil : (connections : ℕ) (lines : List (ℕ × List ℕ)) → lines ≡ [] → None ≡ result_err (events_of connections lines)
unfolding events_of
bad_line-nil connections lines none = rw none refl

-- the bad line of a script whose server's line is good is one of its events'
pub bad_line-events : (server : ℕ × ℕ × ℕ) (events : Result (List ServerEvent) ℕ) → result_err events ≡ result_err (with_events server events)
bad_line-events server (Ok events) = refl
bad_line-events server (Err line) = refl
