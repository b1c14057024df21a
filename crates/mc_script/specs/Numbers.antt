-- Numbers of a script's lines. Source: this project's own.
use Rattle.std.specs.Prelude.{ℕ, ◌^◌, nat_lt, nat_le, ◌&&◌, List, Option, Some, None, option_and_then, if◌then◌else◌}
use Rattle.mc_text.specs.Numbers.{read_u64, number}

-- a number from 1 to a limit
abbrev pub limit_of : ℕ → List ℕ → Option ℕ
limit_of most word = option_and_then (λ n. if nat_le 1 n && nat_le n most then Some n else None) (read_u64 word)

-- the number of one of this many things, counted from 0
abbrev pub place_of : ℕ → List ℕ → Option ℕ
place_of count word = option_and_then (λ n. if nat_lt n count then Some n else None) (read_u64 word)

-- a moment: a number below 2^63
abbrev pub moment_read : List ℕ → Option ℕ
moment_read word = number 20 (2 ^ 63) word
