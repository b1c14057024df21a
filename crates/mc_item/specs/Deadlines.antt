-- When an item is due.
use Rattle.std.specs.Prelude.{ℕ, ◌+◌, ◌-◌, ◌==◌, ◌&&◌, not, nat_le, Bool, ℤ, pos, negsuc, Option, Some, None, if◌then◌else◌}
use Rattle.std.specs.Option.{option_map}
use Rattle.mc_item.specs.declared.deadlines.Deadline.{Deadline}
use Rattle.mc_item.specs.declared.deadlines.TheConstants.{NEVER}

-- the deadline at a moment, in seconds since 1970
abbrev pub at : ℕ → Deadline
at moment = record { moment = moment }

-- the deadline that is never reached: at the greatest number of 64 bits
abbrev pub never : Deadline
never = at NEVER

-- the moment of a deadline that is reached
abbrev pub due_at : Deadline → Option ℕ
due_at deadline = if deadline.moment == NEVER then None else Some deadline.moment

-- the deadline of an exptime at a moment, in seconds: 0 is never, below 0 is at once, up to 30 days is from the
-- moment on, and more is a moment by itself
-- source: protocol.txt, "Expiration times"
abbrev pub deadline_of : ℤ → ℕ → Deadline
deadline_of (negsuc x) moment = at 0
deadline_of (pos x) moment = at (if x == 0 then NEVER else if nat_le x 2592000 then moment + x else x)

-- an item is expired from its deadline on: source protocol.txt, "Expiration times"
abbrev pub is_dead : Deadline → ℕ → Bool
is_dead deadline moment = not (deadline.moment == NEVER) && nat_le deadline.moment moment

-- the seconds that are left, 0 if it is expired; none if it never is: source protocol.txt, "Meta Get", flag t
abbrev pub left_of : Deadline → ℕ → Option ℕ
left_of deadline moment = option_map (λ due. due - moment) (due_at deadline)
