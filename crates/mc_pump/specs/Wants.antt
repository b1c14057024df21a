-- What a connection may keep, and what a pump stops for. All of it is this project's own.
use Rattle.std.specs.Prelude.{ℕ, ◌+◌, ◌-◌, ◌^◌, Bool, true, false, max, min, nat_le, nat_lt, Option, Some, Result, Ok, Err, if◌then◌else◌}
use Rattle.mc_stream.specs.declared.outcomes.Pumped.{Pumped}
use Rattle.mc_stream.specs.declared.outcomes.Pumped.TheVariants.{Failed}
use Rattle.mc_pump.specs.declared.limits.TheConstants.{SMALL_ANSWER}
use Rattle.mc_pump.specs.declared.rounds.Stop.{Stop}
use Rattle.mc_pump.specs.declared.rounds.Stop.TheVariants.{Spent}
use Rattle.mc_pump.specs.declared.watches.Watch.{Watch}
use Rattle.mc_pump.specs.declared.watches.Want.TheVariants.{Answer, Read}

-- The most bytes that the next answer may have: within the limit of an answer, and within what the connection may keep beside what is reserved
-- for it. An answer that leaves little unsent is always allowed: it frees its request.
abbrev pub answer_limit : (limit most unsent reserved : ℕ) → ℕ
answer_limit limit most unsent reserved = min limit (max (most - reserved) (SMALL_ANSWER - unsent))

-- how an answer that was refused stops the turns: for good if it may have more bytes than an answer may, else until there is room
abbrev pub refused_by : (limit bound : ℕ) → Result (Option Stop) Pumped
refused_by limit bound = if nat_lt limit bound then Err Failed else Ok (Some Spent)

-- what a watch notes of it
abbrev pub watch_refusing : (bound : ℕ) → Watch → Watch
watch_refusing bound watch =
    if nat_lt watch.limit.bytes bound then record watch { refused = true } else record watch { want = Some (Answer bound) }
