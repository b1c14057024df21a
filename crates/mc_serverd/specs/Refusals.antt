-- Calls of a server that are refused memory. Source: this project's own.
use Rattle.std.specs.Prelude.{ℕ, ◌+◌, ◌-◌, ◌%◌, ◌^◌, ◌==◌, ◌&&◌, nat_lt, nat_le, Bool, false, Option, Some, None, if◌then◌else◌}
use Rattle.mc_serverd.specs.declared.refusals.Refusals.{Refusals}
use Rattle.mc_serverd.specs.declared.refusals.Row.{Row}
use Rattle.mc_serverd.specs.declared.refusals.TheConstants.{PAUSE}

-- whether a refusal in a second, with n items stored so far, continues a row: none was stored since its last one, and that was not long ago
abbrev pub goes_on : Row → ℕ → ℕ → Bool
goes_on row second stores = (row.stores == stores) && nat_le (second - row.last) PAUSE

-- the second in which the row of a refusal began, after another row or none, with n items stored so far
abbrev pub since_of : Option Row → ℕ → ℕ → ℕ
since_of None second stores = second
since_of (Some row) second stores = if goes_on row second stores then row.since else second

-- the row after a refusal
abbrev pub row_with : Option Row → ℕ → ℕ → Row
row_with row second stores = record { since = since_of row second stores; last = second; stores = stores }

-- a count of 64 bits that goes up
abbrev pub added : (count more : ℕ) → ℕ
added count more = (count + more) % 2 ^ 64

-- n more refusals, all in a second, with this many items stored so far
abbrev pub noted : Refusals → (count second stores : ℕ) → Refusals
noted refusals count second stores =
    record { count = added refusals.count count; row = Some (row_with refusals.row second stores) }

-- whether a row has lasted this many seconds, with this many items stored so far: none was stored since; with 0 none has
abbrev pub has_lasted : Row → (seconds stores : ℕ) → Bool
has_lasted row seconds stores = nat_lt 0 seconds && (row.stores == stores) && nat_le seconds (row.last - row.since)

abbrev pub is_over : Option Row → (seconds stores : ℕ) → Bool
is_over None seconds stores = false
is_over (Some row) seconds stores = has_lasted row seconds stores
