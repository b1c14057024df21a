-- The operator to whom clients are listed next: this project's own.
use Rattle.std.specs.Prelude.{ℕ, zero, suc, ◌+◌, ◌-◌, ◌^◌, ◌==◌, ◌&&◌, min, length, Option, Some, None, option_and_then, if◌then◌else◌}
use Rattle.slab.specs.Slab.{Slab, get}
use Rattle.mc_net.specs.declared.operators.TheConstants.{MAX_OPERATORS}
use Rattle.mc_net.specs.declared.operator_slots.OperatorSlot.{OperatorSlot}

-- the place from which clients must be listed to a connection: it has asked, something may be done for it, and all before was sent
abbrev pub listing_of : OperatorSlot → Option ℕ
listing_of slot = if slot.stirred && length slot.talk.output == 0 then slot.listing else None

-- the connection of a key if it waits for a list, else that which was found
abbrev pub listing_or : ℕ → Option ℕ → Option (ℕ × ℕ) → Option (ℕ × ℕ)
listing_or key (Some from) found = Some (key, from)
listing_or key None found = found

-- the first of a number of keys from one on whose connection waits for a list, and from which place on
abbrev pub first_listing : Slab OperatorSlot → ℕ → ℕ → Option (ℕ × ℕ)
first_listing slots key zero = None
first_listing slots key (suc count) = listing_or key (option_and_then listing_of (get slots key)) (first_listing slots (key + 1) count)

-- the result of the first search, else that of the second
abbrev pub found_or : Option (ℕ × ℕ) → Option (ℕ × ℕ) → Option (ℕ × ℕ)
found_or (Some found) other = Some found
found_or None other = other

-- the key after one, as far as 64 bits count
abbrev pub key_after : ℕ → ℕ
key_after last = min (last + 1) (2 ^ 64 - 1)

-- the next connection that gets a list: those after the last one first, then the others, so that each has its turn
abbrev pub next_listing : Slab OperatorSlot → ℕ → Option (ℕ × ℕ)
next_listing slots last =
    found_or (first_listing slots (key_after last) (MAX_OPERATORS - key_after last)) (first_listing slots 0 (key_after last))

-- the key of what was found, else the last one
abbrev pub listed_by : Option (ℕ × ℕ) → ℕ → ℕ
listed_by (Some found) last = found.0
listed_by None last = last
