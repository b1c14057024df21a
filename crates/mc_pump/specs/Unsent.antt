-- What is unsent of a connection. Source: this project's own.
use Rattle.std.specs.Prelude.{ℕ, ◌≤◌, length, max, Option}
use Rattle.mc_server.specs.ServerState.{ConnectionState, output_of}
use Rattle.mc_pump.specs.declared.limits.TheConstants.{SMALL_ANSWER}

-- no more than was unsent, or than the connection may keep, or than a small answer
abbrev pub IsUnsentWithin : (most : ℕ) → (old new : Option ConnectionState) → Type 0
IsUnsentWithin most old new = length (output_of new) ≤ max (length (output_of old)) (max most SMALL_ANSWER)
