-- How a reader keeps what has arrived: in one buffer, or the first request apart.
use Rattle.std.specs.Prelude.{◌≡◌, false, Option, Some, None}
use Rattle.mc_request_reader.specs.declared.apart_reader.ApartReader.TheInside.{Inside}
use Rattle.mc_request_reader.specs.Reader.{ReaderState, fresh_reader, KeepsLittle}

-- what is kept apart is all that the reader has
abbrev pub state_by : Option ReaderState → ReaderState → ReaderState
state_by None others = others
state_by (Some apart) others = apart

-- while something is kept apart, nothing else is kept
abbrev pub IsIdleWhile : Option ReaderState → ReaderState → Type 0
IsIdleWhile None others = Unit {0}
IsIdleWhile (Some apart) others = (others ≡ fresh_reader) × (apart.closed ≡ false)

abbrev pub state_of : Inside → ReaderState
state_of r = state_by r.apart r.reader

pub record IsApartReader (r : Inside) : Type 0 where
  pub little : KeepsLittle (state_of r)
  pub idle : IsIdleWhile r.apart r.reader
