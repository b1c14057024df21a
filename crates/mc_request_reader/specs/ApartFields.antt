-- How a line and the data block after it are kept apart from the other bytes.
use Rattle.std.specs.Prelude.{ℕ, ◌≡◌, ◌+◌, ◌-◌, ◌<◌, ◌≤◌, List, ◌++◌, length, false, Some, None}
use Rattle.std.specs.Option.{option_map}
use Rattle.mc_text.specs.Lines.{line_end}
use Rattle.mc_request.specs.declared.parts.Parsed.{Parsed}
use Rattle.mc_request.specs.Requests.{next_request, ends}
use Rattle.mc_request_reader.specs.declared.peeks.Front.{Front}
use Rattle.mc_request_reader.specs.declared.peeks.TakenSet.{TakenSet}
use Rattle.mc_request_reader.specs.declared.peeks.TheConstants.{REQUEST_LIMIT}
use Rattle.mc_request_reader.specs.Hosts.{names_host}
use Rattle.mc_request_reader.specs.Peeks.{set_of}
use Rattle.mc_request_reader.specs.Reader.{ReaderState}

-- a line with its end, and nothing after it
pub record IsLine (line : List ℕ) : Type 0 where
  pub some : 0 < length line
  pub ends : line_end line ≡ Some (length line - 1)

-- where the first of a text ends
abbrev pub front_at : Parsed × ℕ → Front
front_at x = record { size = x.1; closes = ends x.0 }

-- a line that announces a data block: with the line end after the block, this many bytes are wanted after the line
pub record Announces (line : List ℕ) (wanted : ℕ) : Type 0 where
  pub begins : IsLine line
  pub limit : length line + wanted ≤ REQUEST_LIMIT
  -- nothing is whole before they have arrived
  pub short : (more : List ℕ) → length more < wanted → next_request (line ++ more) ≡ None
  -- with them the first is whole, ends with them, and closes nothing
  pub whole : (more : List ℕ) → wanted ≤ length more
      → option_map front_at (next_request (line ++ more)) ≡ Some (record { size = length line + wanted; closes = false })

-- a line that is kept apart with its data block: it is no header of an HTTP request
pub record IsApart (line : List ℕ) (wanted : ℕ) : Type 0 where
  pub announces : Announces line wanted
  pub known : (more : List ℕ) → names_host (line ++ more) ≡ false

-- bytes of which none was consumed, kept in two parts
abbrev pub joined : List ℕ → List ℕ → ReaderState
joined line after = record { unread = line ++ after; dropping = None; closed = false; held = length line + length after }

-- the bytes of a piece, to a reader to which nothing had arrived
abbrev pub begun_by : List ℕ → ReaderState
begun_by piece = record { unread = piece; dropping = None; closed = false; held = length piece }

-- a `set` with this data block in place of its own
abbrev pub set_with : TakenSet → List ℕ → Parsed
set_with set block = set_of (record set { block = block })
