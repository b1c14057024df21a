-- The clients that wait for room. All of it is this project's own.
use Rattle.std.specs.Prelude.{ℕ, ◌==◌, Bool, true, false, List, [], ◌∷◌, Option, None, Some, if◌then◌else◌, ◌||◌}
use Rattle.mc_net.specs.ReadyQueues.{has_key}
use Rattle.mc_net.specs.declared.shortages.Standing.{Standing}
use Rattle.mc_net.specs.declared.shortages.Standing.TheVariants as standings
use Rattle.mc_net.specs.declared.shortages.Standing.TheVariants.{Apart, Waiting}
use Rattle.mc_net.specs.declared.buffers.Right.{Right}
use Rattle.mc_net.specs.declared.buffers.Right.TheVariants.{Usual, Behind, Ahead}

-- whether a key is that of the client that is ahead
abbrev pub is_ahead : ℕ → Option ℕ → Bool
is_ahead key None = false
is_ahead key (Some other) = other == key

-- whether nobody waits
abbrev pub is_nobody : List ℕ → Bool
is_nobody [] = true
is_nobody (key ∷ rest) = false

-- where the client of a key stands, given who is ahead, and who waits
abbrev pub standing_of : ℕ → (ahead : Option ℕ) → (waiting : List ℕ) → Standing
standing_of key ahead waiting =
    if has_key key waiting then Waiting else if is_ahead key ahead then standings.Ahead else Apart

-- what gives room to the client of a key, given whether it is its turn, who is ahead, and who waits
abbrev pub right_of : ℕ → (turn : Bool) → (ahead : Option ℕ) → (waiting : List ℕ) → Right
right_of key turn ahead waiting =
    if is_ahead key ahead then Ahead else if turn || is_nobody waiting then Usual else Behind
