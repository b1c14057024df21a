-- A turn whose answer may be written at once, without copying its value.
use Rattle.std.specs.Prelude.{◌≡◌, ℕ, ◌<◌, List, ◌++◌, drop, codes, Option, Ok}
use Rattle.std.specs.Io.KnownBytes.{Keeps}
use Rattle.mc_request.specs.declared.parts.Parsed.{Parsed}
use Rattle.mc_request.specs.Requests.{ends}
use Rattle.mc_request_reader.specs.Peeks.{IsFirst}
use Rattle.mc_stream.specs.Sides.{Writes}
use Rattle.mc_cache.specs.CacheState.{CacheState}
use Rattle.mc_server.specs.Served.{IsServed}
use Rattle.mc_server.specs.ServerState.{ConnectionState}
use Rattle.mc_server.specs.Turns.{IsLimitedTurn}
use Rattle.mc_server.specs.declared.turns.Turn.TheVariants.{Took}
use Rattle.mc_server.specs.declared.turns.Limited.{Limited}
use Rattle.mc_server.specs.declared.turns.Limited.TheVariants.{Turned}

-- What is taken is served at this moment, and its answer is appended to the output. The writer took the first `went` bytes of
-- both, and those after them are left. It took some only if an item is shown.
pub record PutsOut (number moment went : ℕ) (written written' : Option (List ℕ)) (s t : CacheState) (what : Parsed) (before after : List ℕ) : Type 0 where
  pub whole : List ℕ
  pub served : IsServed number s what moment t before whole
  pub wrote : Writes (Ok went) whole written written'
  pub left : after ≡ drop went whole
  pub shown : 0 < went → (rest : List ℕ) × (whole ≡ before ++ (codes "VALUE " ++ rest))

-- the first request or fault of a connection's rest is taken, and its answer is written or appended
pub record TakesOut (number moment went : ℕ) (written written' : Option (List ℕ)) (s t : CacheState) (old new : ConnectionState) : Type 0 where
  pub what : Parsed
  pub first : IsFirst old.reader what new.reader
  pub closed : new.reader.closed ≡ ends what
  pub put : PutsOut number moment went written written' s t what old.output new.output

-- what a turn of the connection of a number at a moment does within a limit, if the writer took `went` bytes of its answer: none
-- if nothing was taken
abbrev pub IsGatheredTurn : ℕ → ℕ → Limited → ℕ → Option (List ℕ) → Option (List ℕ) → CacheState → CacheState → ConnectionState → ConnectionState → Type 0
IsGatheredTurn number moment (Turned Took) went written written' s t old new = TakesOut number moment went written written' s t old new
IsGatheredTurn number moment limited went written written' s t old new =
    (went ≡ 0) × Keeps written written' × IsLimitedTurn number moment limited s t old new
