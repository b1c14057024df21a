-- What a reader stands for: a function of the text still to arrive.
use Rattle.std.specs.Prelude.{ℕ, ◌≡◌, ◌<◌, ◌≤◌, ◌*◌, ◌-◌, Bool, true, false, nat_lt, List, [], ◌∷◌, ◌++◌, length, drop, Option, Some, None, if◌then◌else◌}
use Rattle.mc_request.specs.declared.faults.Fault.{Fault}
use Rattle.mc_request.specs.declared.parts.Parsed.{Parsed}
use Rattle.mc_request.specs.declared.parts.Parsed.TheVariants.{Faulty}
use Rattle.mc_request_reader.specs.declared.peeks.TheConstants.{REQUEST_LIMIT}
use Rattle.mc_request.specs.Requests.{requests_of}

-- a reader, as contracts see it
pub record ReaderState : Type 0 where
  -- the bytes that have arrived and are not consumed
  pub unread : List ℕ
  -- the fault of a block that is dropped while it arrives, and how many bytes of it are missing
  pub dropping : Option (Fault × ℕ)
  -- nothing is read any more
  pub closed : Bool
  -- how many bytes are kept: those that are not consumed, and the consumed ones that are not released yet
  pub held : ℕ

-- a reader to which nothing has arrived
abbrev pub fresh_reader : ReaderState
fresh_reader = record { unread = []; dropping = None; closed = false; held = 0 }

-- the requests and faults of bytes, the first of which may be dropped
abbrev pub rest_from : Bool → Option (Fault × ℕ) → List ℕ → List Parsed
rest_from true dropping bytes = []
rest_from false None bytes = requests_of bytes
rest_from false (Some d) bytes = if nat_lt (length bytes) d.1 then [] else Faulty d.0 ∷ requests_of (drop d.1 bytes)

-- what a reader will return, if this text arrives
abbrev pub rest_of : ReaderState → List ℕ → List Parsed
rest_of s text = rest_from s.closed s.dropping (s.unread ++ text)

-- another reader returns what this one would
pub record KeepsRest (old new : ReaderState) : Type 0 where
  pub rest : (text : List ℕ) → rest_of new text ≡ rest_of old text
  pub closed : new.closed ≡ old.closed

-- how many bytes of a piece are kept: none after the end, nor those of a block that is dropped
abbrev pub kept_by : Option (Fault × ℕ) → ℕ → ℕ
kept_by None count = count
kept_by (Some d) count = count - d.1

abbrev pub kept_of : ReaderState → ℕ → ℕ
kept_of s count = if s.closed then 0 else kept_by s.dropping count

-- the most bytes that are kept: none after the end or while a block is dropped, else twice the unconsumed ones
abbrev pub most_by : Option (Fault × ℕ) → List ℕ → ℕ
most_by None unread = 2 * length unread
most_by (Some d) unread = if nat_lt 0 d.1 then 0 else 2 * length unread

abbrev pub most_held : ReaderState → ℕ
most_held s = if s.closed then 0 else most_by s.dropping s.unread

-- what is kept is bounded by what is not consumed; if nothing is whole, by what a line and a data block may have
pub record KeepsLittle (s : ReaderState) : Type 0 where
  pub most : s.held ≤ most_held s
  pub limit : rest_of s [] ≡ [] → s.held < REQUEST_LIMIT
