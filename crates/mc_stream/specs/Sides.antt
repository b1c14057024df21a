-- What the two sides of a stream carry, and how a call of one of them goes. Nothing here knows what the stream serves:
-- this project's own; `Consumes`, `Appends` and `Keeps` are std's.
use Rattle.std.specs.Prelude.{◌≡◌, ℕ, ◌≤◌, ◌⊎◌, Bool, true, false, List, ◌++◌, length, take, Option, Some, None, Result, Ok, Err}
use Rattle.std.specs.Io.KnownBytes.{Appends, Consumes, Keeps}
use Rattle.mc_stream.specs.declared.outcomes.Pumped.{Pumped}
use Rattle.mc_stream.specs.declared.outcomes.Pumped.TheVariants.{Again, Failed}

-- the bytes that arrived are all that the reader had, if that is known
abbrev pub IsAll : Option (List ℕ) → List ℕ → Type 0
IsAll None came = Unit {0}
IsAll (Some all) came = came ≡ all

-- The bytes that arrived are those that the reader gave, and the bytes that were sent are those that the writer took,
-- as far as these are known; the input is said to have ended only if all of it arrived.
pub record Carries (unread unread' written written' : Option (List ℕ)) (ended ended' : Bool) (came went : List ℕ) : Type 0 where
  pub consumed : Consumes unread unread' came
  pub appended : Appends written written' went
  pub still_ended : ended ≡ true → ended' ≡ true
  pub at_end : ended' ≡ true → (ended ≡ true) ⊎ IsAll unread came

-- Likewise by how a pump ends. If it failed, bytes that the reader gave may be lost: those that arrived are the first of them.
abbrev pub CarriesBy : Pumped → Option (List ℕ) → Option (List ℕ) → Option (List ℕ) → Option (List ℕ) → Bool → Bool → List ℕ → List ℕ → Type 0
CarriesBy Failed unread unread' written written' ended ended' came went = (lost : List ℕ) × Carries unread unread' written written' ended ended' (came ++ lost) went
CarriesBy other unread unread' written written' ended ended' came went = Carries unread unread' written written' ended ended' came went

-- how a side stops the pump: it was interrupted, or it failed
abbrev pub IsStopOfSide : Pumped → Type 0
IsStopOfSide Again = Unit {0}
IsStopOfSide Failed = Unit {0}
IsStopOfSide other = ⊥

-- a round, or a part of one, that does not stop goes on as a pump that may be called again
abbrev pub pump_of : {T : Type 0} → Result T Pumped → Pumped
pump_of (Ok value) = Again
pump_of (Err pump) = pump

-- an error of a side moves nothing
abbrev pub MovesNothing : Result ℕ Pumped → Type 0
MovesNothing (Ok count) = count ≡ 0
MovesNothing (Err pump) = IsStopOfSide pump

-- what a read carried: bytes, or the end, after which all have arrived
pub record Brings (unread unread' : Option (List ℕ)) (ended' : Bool) (came : List ℕ) : Type 0 where
  pub consumed : Consumes unread unread' came
  pub at_end : ended' ≡ true → IsAll unread came

-- what a read carried that stops the pump; if something failed, the bytes that it read may be lost
abbrev pub StopsRead : Pumped → (unread unread' : Option (List ℕ)) (ended' : Bool) (came : List ℕ) → Type 0
StopsRead Again unread unread' ended' came = Brings unread unread' ended' came
StopsRead Failed unread unread' ended' came = (lost : List ℕ) × Brings unread unread' ended' (came ++ lost)
StopsRead other unread unread' ended' came = ⊥

-- how a write went: whether the writer took anything, or how it stops the pump
abbrev pub HowItWent : Result Bool Pumped → (written written' : Option (List ℕ)) (went : List ℕ) (unmoved : Type 0) → Type 0
HowItWent (Ok true) written written' went unmoved = Appends written written' went
HowItWent (Ok false) written written' went unmoved = Appends written written' went × unmoved
HowItWent (Err pump) written written' went unmoved = IsStopOfSide pump × Appends written written' went

-- how a read went, of which something is fed: whether anything arrived, or the end, or how it stops the pump
abbrev pub HowItCame : Result Bool Pumped → (unread unread' : Option (List ℕ)) (ended' : Bool) (came : List ℕ) (unmoved : Type 0) → Type 0
HowItCame (Ok true) unread unread' ended' came unmoved = Brings unread unread' ended' came
HowItCame (Ok false) unread unread' ended' came unmoved = Brings unread unread' ended' came × (ended' ≡ false) × unmoved
HowItCame (Err pump) unread unread' ended' came unmoved = StopsRead pump unread unread' ended' came

-- one write of an output: the first n bytes of it were sent; if it stops the pump, none were
abbrev pub Writes : Result ℕ Pumped → (output : List ℕ) (written written' : Option (List ℕ)) → Type 0
Writes (Ok count) output written written' = (count ≤ length output) × Appends written written' (take count output)
Writes (Err pump) output written written' = IsStopOfSide pump × Keeps written written'

-- One read into a piece, of an input that had not ended: the first n bytes of the piece arrived; the end arrived only
-- if none did. If it stops the pump, none did, and not the end.
abbrev pub Reads : Result ℕ Pumped → (piece' : List ℕ) (ended' : Bool) (unread unread' : Option (List ℕ)) → Type 0
Reads (Ok count) piece' ended' unread unread' = (count ≤ length piece') × (ended' ≡ true → count ≡ 0) × Brings unread unread' ended' (take count piece')
Reads (Err pump) piece' ended' unread unread' = IsStopOfSide pump × (ended' ≡ false) × Keeps unread unread'
