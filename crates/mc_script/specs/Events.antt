-- What holds of the events of a script. Source: this project's own.
use Rattle.std.specs.Prelude.{ℕ, ◌<◌, ◌^◌}
use Rattle.mc_script.specs.declared.events.ServerEvent.{ServerEvent}
use Rattle.mc_script.specs.declared.events.ServerEvent.TheVariants.{Bytes, Turn}

-- the number of an event's connection
abbrev pub number_of : ServerEvent → ℕ
number_of (Bytes connection bytes) = connection
number_of (Turn connection moment) = connection

-- the moment of a turn; bytes have none
abbrev pub moment_of : ServerEvent → ℕ
moment_of (Bytes connection bytes) = 0
moment_of (Turn connection moment) = moment

-- the connection is below this number, and the moment is below 2^63
abbrev pub IsEventOf : ℕ → ServerEvent → Type 0
IsEventOf connections event = (number_of event < connections) × (moment_of event < 2 ^ 63)
