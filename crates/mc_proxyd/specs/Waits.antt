-- How long a link's commands may wait for their replies: this project's own.
use Rattle.std.specs.Prelude.{ℕ, ◌==◌, ◌+◌, ◌-◌, ◌*◌, ◌/◌, ◌^◌, min, nat_lt, Option, Some, None, option_map, if◌then◌else◌}
use Rattle.mc_program.specs.Tickers.{earlier}
use Rattle.mc_proxyd.specs.declared.limits.TheConstants.{REPLY_RATE, SAMPLE_TIMEOUTS}
use Rattle.mc_proxyd.specs.declared.waits.Age.{Age}
use Rattle.mc_proxyd.specs.declared.waits.Sample.{Sample}

-- the age of a command that is measured from a moment on, and that age once bytes have arrived, as far as 64 bits count
abbrev pub begun_at : ℕ → Age
begun_at now = record { since = now; bytes = 0 }

abbrev pub aged : ℕ → Age → Age
aged came age = record { since = age.since; bytes = min (age.bytes + came) (2 ^ 64 - 1) }

-- A command is late a number of milliseconds after it began to wait, and one more for each 64 bytes that arrived since: a large value may take
-- long, at 64 KB a second or more, and a server that sends a byte now and then gains nothing by it.
abbrev pub late_by : ℕ → Age → ℕ
late_by span age = min (age.since + span + age.bytes / REPLY_RATE) (2 ^ 64 - 1)

-- The age of the oldest pending command of a link, after a number of replies, with a number of commands pending, bytes that arrived, and the
-- moment. A command becomes the oldest as it is sent to an idle link, or as the reply before it is taken: from then on it is measured.
abbrev pub oldest_after : (replies pending came now : ℕ) → Option Age → Option Age
oldest_after replies pending came now None = if pending == 0 then None else Some (begun_at now)
oldest_after replies pending came now (Some age) =
    if pending == 0 then None else (if replies == 0 then Some (aged came age) else Some (begun_at now))

-- The sampled command of a link, likewise: by the number of pending commands up to it, and with the bytes that were sent beside those that
-- arrived, since it may be behind many. It is the newest command as it is chosen, and another is chosen once it has its reply.
abbrev pub sample_after : (replies pending moved now : ℕ) → Option Sample → Option Sample
sample_after replies pending moved now None =
    if pending == 0 then None else Some (record { left = pending; age = begun_at now })
sample_after replies pending moved now (Some sample) =
    if pending == 0 then None else (if nat_lt replies sample.left
    then Some (record { left = sample.left - replies; age = aged moved sample.age })
    else Some (record { left = pending; age = begun_at now }))

-- When a link is late, by its timeout: never with a timeout of 0 or without pending commands. Its oldest command has one timeout, so that a server
-- that answers nothing is found soon. Its sampled command has two, so that no command is older than four, beside what the bytes allow: one that
-- is sent while another is sampled has at most two timeouts until that one is answered, and then it, or a newer one behind it, is sampled.
abbrev pub late_at : ℕ → Option Age → Option Sample → Option ℕ
late_at timeout oldest sample = if timeout == 0 then None else earlier
    (option_map (late_by timeout) oldest)
    (option_map (λ sample. late_by (min (timeout * SAMPLE_TIMEOUTS) (2 ^ 64 - 1)) sample.age) sample)
