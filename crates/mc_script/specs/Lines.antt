-- Lines, their numbers and their words. Source: this project's own.
use Rattle.std.specs.Prelude.{ℕ, ◌+◌, ◌==◌, ◌∷◌, nat_lt, if◌then◌else◌, List, length, take, drop, Option, position, filter}
use Rattle.std.specs.List.{slice_split, enumerate_from}
use Rattle.std.specs.Option.{option_map}

-- the lines of a text that are not empty, each with its number, if the first line has this one
unfoldable pub lines_from : ℕ → List ℕ → List (ℕ × List ℕ)
lines_from n text = filter (λ line. nat_lt 0 (length line.1)) (enumerate_from n (slice_split (λ b. b == 10) text))

-- a line in front of others, if it is not empty
abbrev pub with_line : ℕ → List ℕ → List (ℕ × List ℕ) → List (ℕ × List ℕ)
with_line n line lines = if nat_lt 0 (length line) then (n, line) ∷ lines else lines

-- the text before the first space, and the text after it
unfoldable pub cut_at_space : List ℕ → Option (List ℕ × List ℕ)
cut_at_space text = option_map (λ end. (take end text, drop (end + 1) text)) (position (λ b. b == 32) text)
