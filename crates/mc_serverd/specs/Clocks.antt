-- The moments of a server. All of it is this project's own.
use Rattle.std.specs.Prelude.{ℕ, ◌+◌, ◌-◌, ◌^◌, min}

-- the moment n seconds after a start: at most the last one that a signed 64-bit number can express
abbrev pub moment_after : (start passed : ℕ) → ℕ
moment_after start passed = min (start + passed) (2 ^ 63 - 1)
