-- How the bytes that are not consumed are kept.
use Rattle.std.specs.Prelude.{ℕ, ◌≡◌, ◌*◌, ◌<◌, ◌≤◌, List, length, drop, true, false, Option, Some, None}
use Rattle.mc_request.specs.declared.faults.Fault.{Fault}
use Rattle.mc_request_reader.specs.declared.peeks.TheConstants.{REQUEST_LIMIT}
use Rattle.mc_request_reader.specs.declared.unread.Unread.TheInside.{Inside}
use Rattle.mc_request.specs.Faults.{closes}
use Rattle.mc_request_reader.specs.Reader.{ReaderState}
use Rattle.mc_request_reader.specs.Steps.{IsSearched, IsShortOf, IsWholeFrom}

abbrev pub state_of : Inside → ReaderState
state_of r = record { unread = drop r.start r.buffer.items; dropping = r.dropping; closed = r.closed; held = length r.buffer.items }

-- nothing is kept while a block is dropped
abbrev pub IsEmptyWhile : Option (Fault × ℕ) → List ℕ → Type 0
IsEmptyWhile None unread = Unit {0}
IsEmptyWhile (Some d) unread = (closes d.0 ≡ false) × (0 < d.1 → length unread ≡ 0)

pub record IsUnread (r : Inside) : Type 0 where
  -- at most half of what is kept was consumed
  pub half : 2 * r.start ≤ length r.buffer.items
  -- what is known of the end of the first line
  pub searched : IsSearched r.searched (drop r.start r.buffer.items)
  -- nothing is whole before `wanted` bytes
  pub short : IsShortOf r.wanted (drop r.start r.buffer.items)
  pub limit : r.wanted ≤ REQUEST_LIMIT
  -- with `wanted` bytes it is whole, if that is known
  pub whole : r.sure ≡ true → IsWholeFrom r.wanted (drop r.start r.buffer.items)
  pub empty : IsEmptyWhile r.dropping (drop r.start r.buffer.items)
  -- nothing is kept once nothing is read any more
  pub done : r.closed ≡ true → length r.buffer.items ≡ 0
