-- When an address or a ring is refused, and for which cause. Lack of memory is none of these causes. All of it is
-- this project's own.
use Rattle.std.specs.Prelude.{ℕ, ◌==◌, nat_lt, nat_le, List, length, Option, Some, None, Result, Ok, Err, if◌then◌else◌}
use Rattle.std.specs.List.{list_all, list_any}
use Rattle.std.specs.Option.{option_or}
use Rattle.std.specs.Str.{bytes_eq}
use Rattle.mc_ring.specs.declared.points.Point.{Point}
use Rattle.mc_ring.specs.declared.errors.RingError.{RingError}
use Rattle.mc_ring.specs.declared.errors.RingError.TheVariants.{NoServer, TooMany, Doubled, BadAddress, Memory}
use Rattle.mc_text.specs.Addresses.{is_address}
use Rattle.mc_ring.specs.Rings.{has_doubled}

-- a cause other than memory
abbrev pub cause_of : RingError → Option RingError
cause_of NoServer = Some NoServer
cause_of TooMany = Some TooMany
cause_of Doubled = Some Doubled
cause_of BadAddress = Some BadAddress
cause_of Memory = None

-- why a call refused, if it did so for another cause than memory
abbrev pub refusal_in : {T : Type 0} → Result T RingError → Option RingError
refusal_in (Ok value) = None
refusal_in (Err error) = cause_of error

-- a text for an address
abbrev pub refusal_of_text : List ℕ → Option RingError
refusal_of_text text = if is_address text then None else Some BadAddress

-- servers for a ring: none, more than 64, or two alike; of several causes the first
abbrev pub refusal_of : List (List ℕ) → Option RingError
refusal_of servers =
    if length servers == 0 then Some NoServer
    else if nat_lt 64 (length servers) then Some TooMany
    else if has_doubled servers then Some Doubled
    else None

-- pairs for a ring of this number of servers: one is of a missing server
abbrev pub refusal_of_pairs : ℕ → List Point → Option RingError
refusal_of_pairs count pairs = if list_all (λ p. nat_lt p.place count) pairs then None else Some BadAddress

-- servers and pairs for a ring: no pair, then a fault of the servers, then a fault of the pairs
abbrev pub refusal_of_points : List (List ℕ) → List Point → Option RingError
refusal_of_points servers pairs =
    if length pairs == 0 then Some NoServer else option_or (refusal_of servers) (refusal_of_pairs (length servers) pairs)

-- a server to add to those of a ring: the ring has 64 already, or one is alike
abbrev pub refusal_of_more : List (List ℕ) → List ℕ → Option RingError
refusal_of_more servers server =
    if nat_le 64 (length servers) then Some TooMany
    else if list_any (λ other. bytes_eq other server) servers then Some Doubled
    else None
