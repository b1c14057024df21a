-- What a call of a reader returns.
use Rattle.std.specs.Prelude.{ℕ, ◌≡◌, nat_lt, true, false, List, [], ◌∷◌, drop, Option, Some, None, if◌then◌else◌}
use Rattle.std.specs.Option.{option_map}
use Rattle.mc_request.specs.declared.faults.Fault.{Fault}
use Rattle.mc_request.specs.declared.parts.Parsed.{Parsed}
use Rattle.mc_request.specs.declared.parts.Parsed.TheVariants.{Whole, Faulty}
use Rattle.mc_request.specs.declared.parts.Request.TheVariants.{Get, Update}
use Rattle.mc_request.specs.declared.parts.StoreMode.TheVariants.{Set}
use Rattle.mc_request.specs.declared.parts.Update.TheVariants.{Store}
use Rattle.mc_request_reader.specs.declared.peeks.Front.{Front}
use Rattle.mc_request_reader.specs.declared.peeks.LentGet.{LentGet}
use Rattle.mc_request_reader.specs.declared.peeks.LentLine.{LentLine}
use Rattle.mc_request_reader.specs.declared.peeks.TakenSet.{TakenSet}
use Rattle.mc_request_reader.specs.declared.peeks.Look.{Look}
use Rattle.mc_request_reader.specs.declared.peeks.Look.TheVariants as looks
use Rattle.mc_request_reader.specs.declared.peeks.Peek.{Peek}
use Rattle.mc_request_reader.specs.declared.peeks.Peek.TheVariants as peeks
use Rattle.mc_request_reader.specs.declared.reader.Next.{Next}
use Rattle.mc_request_reader.specs.declared.reader.Next.TheVariants as nexts
use Rattle.mc_request.specs.Faults.{closes}
use Rattle.mc_text.specs.Words.{words}
use Rattle.mc_request.specs.Meanings.{meaning, Alone}
use Rattle.mc_request.specs.Requests.{next_request, ends}
use Rattle.mc_request.specs.WellFormed.{is_well_formed}
use Rattle.mc_request.specs.LinesSeen.{asked_of}
use Rattle.mc_request_reader.specs.Reader.{ReaderState, rest_of}

-- a reader after its first request or fault
abbrev pub past : Front → ReaderState → ReaderState
past front s = record s { unread = drop front.size s.unread; dropping = None; closed = front.closes }

-- the first that a reader has, whatever text follows, and the reader that has the others
pub record IsFirst (old : ReaderState) (taken : Parsed) (new : ReaderState) : Type 0 where
  pub rest : (text : List ℕ) → rest_of old text ≡ taken ∷ rest_of new text

-- it has none yet, and nothing is lost
pub record HasNone (old new : ReaderState) : Type 0 where
  pub was_open : old.closed ≡ false
  pub is_open : new.closed ≡ false
  pub none : rest_of old [] ≡ []
  pub rest : (text : List ℕ) → rest_of new text ≡ rest_of old text

-- what is first if nothing is closed, and how many bytes it takes: it is whole, or its block was dropped
abbrev pub first_by : Option (Fault × ℕ) → List ℕ → Option (Parsed × ℕ)
first_by None unread = next_request unread
first_by (Some d) unread = if nat_lt 0 d.1 then None else Some (Faulty d.0, 0)

-- where the first of a reader ends, if there is one
abbrev pub front_of : ReaderState → Option Front
front_of s =
    if s.closed then None else option_map (λ x. record { size = x.1; closes = ends x.0 }) (first_by s.dropping s.unread)

-- the first that a reader has, and where it ends
pub record Shows (s : ReaderState) (taken : Parsed) (front : Front) : Type 0 where
  pub front_is : front_of s ≡ Some front
  pub closes : front.closes ≡ ends taken
  pub first : IsFirst s taken (past front s)

-- a look at the first
abbrev pub Peeks : ReaderState → Peek → Type 0
Peeks s (peeks.First asked front) = Shows s (asked_of asked) front
Peeks s peeks.More = HasNone s s
Peeks s peeks.Closed = s.closed ≡ true

-- what a look borrows is well formed
abbrev pub IsWellFormedPeek : Peek → Type 0
IsWellFormedPeek (peeks.First asked front) = is_well_formed (asked_of asked) ≡ true
IsWellFormedPeek peeks.More = Unit {0}
IsWellFormedPeek peeks.Closed = Unit {0}

-- the first is returned, and the others are kept; after `quit` or a line too long the reader is closed
abbrev pub Gives : ReaderState → Next → ReaderState → Type 0
Gives old (nexts.Request request) new = IsFirst old (Whole request) new × (new.closed ≡ ends (Whole request))
Gives old (nexts.Fault fault) new = IsFirst old (Faulty fault) new × (new.closed ≡ closes fault)
Gives old nexts.More new = HasNone old new
Gives old nexts.Closed new = (old.closed ≡ true) × (new ≡ old)

-- the request that a look at a retrieval shows
abbrev pub get_of : LentGet → Parsed
get_of get = Whole (Get get.keys None get.with_cas)

-- the request that a `set` is
abbrev pub set_of : TakenSet → Parsed
set_of set = Whole (Update (Store Set None set.key set.flags set.exptime set.block) set.noreply)

-- a line asks for this, and no data block follows it
abbrev pub IsAlone : LentLine → Parsed → Type 0
IsAlone line what = meaning (words line.content.now) ≡ Alone what

-- where what a line asks for ends
abbrev pub front_by : LentLine → Parsed → Front
front_by line what = record { size = line.size; closes = ends what }

-- a fast look at the first: what a line asks for is first if no data block follows the line
abbrev pub Looks : ReaderState → Look → Type 0
Looks s looks.More = HasNone s s
Looks s (looks.Get get) = Shows s (get_of get) get.front
Looks s (looks.Line line) = (what : Parsed) → IsAlone line what → Shows s what (front_by line what)
Looks s looks.Other = Unit {0}

-- what a fast look borrows is well formed
abbrev pub IsWellFormedLook : Look → Type 0
IsWellFormedLook looks.More = Unit {0}
IsWellFormedLook (looks.Get get) = is_well_formed (get_of get) ≡ true
IsWellFormedLook (looks.Line line) = (what : Parsed) → IsAlone line what → is_well_formed what ≡ true
IsWellFormedLook looks.Other = Unit {0}
