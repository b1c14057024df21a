-- When a line is printed: this project's own.
use Rattle.std.specs.Prelude.{ℕ, ◌+◌, ◌-◌, ◌^◌, Option, Some, None, min}
use Rattle.mc_program.specs.declared.tickers.Said.{Said}

-- a number of seconds after a second, as far as 64 bits count
abbrev pub next_of : ℕ → ℕ → ℕ
next_of every second = min (second + every) (2 ^ 64 - 1)

-- the earlier of two moments, either of which may be missing
abbrev pub earlier : Option ℕ → Option ℕ → Option ℕ
earlier (Some one) (Some other) = Some (min one other)
earlier (Some one) None = Some one
earlier None other = other

-- one more, as far as 64 bits count
abbrev pub one_more : ℕ → ℕ
one_more count = min (count + 1) (2 ^ 64 - 1)

-- how many are suppressed with the line that is due, if one is
abbrev pub suppressed_with : {T : Type 0} → Option T → ℕ → ℕ
suppressed_with (Some _) count = one_more count
suppressed_with None count = count

-- the line that is due, if one is, and how many were suppressed before it
abbrev pub said_of : {T : Type 0} → Option T → ℕ → Option (Said T)
said_of (Some it) count = Some (record { what = it; suppressed = count })
said_of None count = None
