-- The printed account of a world, as one more line is added.
use Rattle.std.proofs.Common.{◌≡◌, ◌∙◌, ℕ, ◌+◌, ◌<◌, List, [], ◌∷◌, ◌++◌, length, map, take, get_or, codes, decimal, sym, ap, arith}
use Rattle.std.specs.List.{flat_map, range_with_len}
use Rattle.std.proofs.lemmas.List.{append-nil, length-map, length-take-le, map-append, map-id, take_more}
use Rattle.std.proofs.lemmas.List.FromFn.{map-range_with_len_more}
use Rattle.std.proofs.lemmas.Grind.{flat_map-append}
use Rattle.mc_history.specs.declared.entries.Entry.{Entry}
use Rattle.mc_script.specs.Escapes.{named_line, named_lines}
use Rattle.mc_script.proofs.OutputLemmas.{named_lines_more}
use Rattle.mc_world.specs.Worlds.{CourseState, history_of}
use Rattle.mc_world.specs.declared.errors.Step.{Step}
use Rattle.mc_pool_script.specs.Printed.{entry_line, event_lines, histories_lines, history_lines, word_of}

-- the line of one more event
pub event_lines_more : (steps : List Step) (i : ℕ) (d : Step) → i < length steps
    → event_lines (take (i + 1) steps) ≡ event_lines (take i steps) ++ named_line (codes "event") i (word_of (get_or steps i d))
event_lines_more steps i d inside =
    let step = get_or steps i d in
    let words = map word_of (take i steps) in
    let count : length words ≡ i = length-map (take i steps) word_of ∙ length-take-le i steps (omega arith) in
    ap event_lines (take_more steps i d inside)
    ∙ ap (λ (ws : List (List ℕ)). named_lines (codes "event") ws) (map-append word_of (take i steps) (step ∷ []))
    ∙ named_lines_more (codes "event") words (word_of step)
    ∙ ap (λ (n : ℕ). named_lines (codes "event") words ++ named_line (codes "event") n (word_of step)) count

-- the lines of one more server
pub histories_lines_more : (course : CourseState) (place : ℕ)
    → histories_lines (place + 1) course ≡ histories_lines place course ++ history_lines place (history_of course place)
histories_lines_more course place =
    let lines = λ (p : ℕ). history_lines p (history_of course p) in
    let places : range_with_len 0 (place + 1) ≡ range_with_len 0 place ++ place ∷ [] =
    sym (map-id (range_with_len 0 (place + 1))) ∙ map-range_with_len_more (λ (p : ℕ). p) 0 place place (omega arith)
    ∙ ap (λ (ps : List ℕ). ps ++ place ∷ []) (map-id (range_with_len 0 place)) in
    ap (λ (ps : List ℕ). flat_map lines ps) places ∙ flat_map-append lines (range_with_len 0 place) (place ∷ [])
    ∙ ap (λ (xs : List ℕ). histories_lines place course ++ xs) (append-nil (lines place))

-- the lines of a server that took this number of commands, up to some of them
abbrev pub history_so_far : ℕ → ℕ → List Entry → List ℕ
history_so_far place count entries = named_line (codes "history") place (decimal count) ++ flat_map (λ e. entry_line place e) entries
