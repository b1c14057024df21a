-- Which texts are read as scripts of a pool. Source: this project's own.
use Rattle.std.specs.Prelude.{ℕ, Bool, false, List, [], ◌∷◌, codes}
use Rattle.std.specs.Option.{option_map_or}
use Rattle.std.specs.Str.{bytes_eq}
use Rattle.mc_script.specs.Lines.{lines_from, cut_at_space}

-- the first word of a line is `pool`
unfoldable pub begins_pool : List ℕ → Bool
begins_pool line = option_map_or (λ words. bytes_eq words.0 (codes "pool")) (cut_at_space line) false

-- the first word of the first of some lines is `pool`
unfoldable pub is_pool : List (ℕ × List ℕ) → Bool
is_pool [] = false
is_pool (line ∷ lines) = begins_pool line.1

-- the first word of the first line of a text that is not empty is `pool`
abbrev pub is_of_pool : List ℕ → Bool
is_of_pool input = is_pool (lines_from 1 input)
