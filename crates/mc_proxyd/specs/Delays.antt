-- When a server is tried again after a failure: this project's own.
use Rattle.std.specs.Prelude.{ℕ, ◌+◌, ◌*◌, ◌-◌, ◌^◌, ◌==◌, ◌||◌, min, Bool, if◌then◌else◌}
use Rattle.mc_proxyd.specs.declared.limits.TheConstants.{FIRST_DELAY, LONGEST_DELAY}

-- The fewest milliseconds after the last of a number of failures in a row: 100 after the first, twice as many after each further one,
-- and never more than 4,000. The most are twice as many.
abbrev pub least_delay : ℕ → ℕ
least_delay failures = min (FIRST_DELAY * 2 ^ (failures - 1)) LONGEST_DELAY

-- How many links of a server in a row were lost while it answered none of their commands, after the loss of one more link: that link is counted if
-- it got no reply, and commands were pending on it.
abbrev pub silences_after : (silences : ℕ) → (answered : Bool) → (pending : ℕ) → ℕ
silences_after silences answered pending = if answered || (pending == 0) then silences else min (silences + 1) (2 ^ 32 - 1)
