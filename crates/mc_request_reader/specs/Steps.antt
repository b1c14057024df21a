-- What is at the front of the bytes that have arrived.
use Rattle.std.specs.Prelude.{ℕ, ◌≡◌, ◌<◌, ◌≤◌, Bool, true, false, nat_lt, List, ◌++◌, length, drop, Option, Some, None, is_some, if◌then◌else◌}
use Rattle.mc_text.specs.Lines.{HasNoLineFeed, TooLong, first_line, line_end}
use Rattle.mc_text.specs.declared.lines.TheConstants.{LINE_LIMIT}
use Rattle.mc_request.specs.LinesSeen.{asked_of}
use Rattle.mc_request.specs.declared.lines.RequestRef.{RequestRef}
use Rattle.mc_request.specs.declared.parts.Parsed.{Parsed}
use Rattle.mc_request.specs.declared.parts.Parsed.TheVariants as takens
use Rattle.mc_request_reader.specs.declared.peeks.TheConstants.{REQUEST_LIMIT}
use Rattle.mc_request_reader.specs.declared.peeks.Look.{Look}
use Rattle.mc_request_reader.specs.declared.peeks.Look.TheVariants as looks
use Rattle.mc_request_reader.specs.declared.searched.Searched.{Searched}
use Rattle.mc_request_reader.specs.declared.searched.Searched.TheVariants as searches
use Rattle.mc_request_reader.specs.declared.steps.Arrival.{Arrival}
use Rattle.mc_request_reader.specs.declared.steps.Arrival.TheVariants.{Whole, Waits, Drops}
use Rattle.mc_request.specs.Faults.{closes}
use Rattle.mc_request.specs.Meanings.{Meaning}
use Rattle.mc_request.specs.Requests.{next_request, taken_by}
use Rattle.mc_request_reader.specs.Peeks.{IsAlone, get_of}

-- no text that begins so has a whole request before it has n bytes
abbrev pub IsShortOf : ℕ → List ℕ → Type 0
IsShortOf wanted unread = (more : List ℕ) → length (unread ++ more) < wanted → next_request (unread ++ more) ≡ None

-- each text that begins so has a whole request once it has n bytes
abbrev pub IsWholeFrom : ℕ → List ℕ → Type 0
IsWholeFrom wanted unread = (more : List ℕ) → wanted ≤ length (unread ++ more) → is_some (next_request (unread ++ more)) ≡ true

-- what is known of the end of the first line of bytes, and stays so when more arrive
abbrev pub IsSearched : Searched → List ℕ → Type 0
IsSearched (searches.Without count) unread = HasNoLineFeed count unread
IsSearched (searches.Ends end) unread = line_end unread ≡ Some end
IsSearched searches.TooLong unread = first_line unread ≡ TooLong

-- bytes of which nothing is whole until others arrive
pub record IsWaiting (unread : List ℕ) (known : Searched) (wanted : ℕ) (sure : Bool) : Type 0 where
  pub searched : IsSearched known unread
  pub short : IsShortOf wanted unread
  pub few : length unread < wanted
  pub limit : wanted ≤ REQUEST_LIMIT
  pub whole : sure ≡ true → IsWholeFrom wanted unread

-- what is at the front of bytes: it is whole, it is not whole yet, or its block is dropped while it arrives
abbrev pub ArrivalIs : List ℕ → Arrival → Type 0
ArrivalIs unread (Whole searched) = IsSearched searched unread × (is_some (next_request unread) ≡ true)
ArrivalIs unread (Waits searched wanted sure) = IsWaiting unread searched wanted sure
ArrivalIs unread (Drops fault size) = (closes fault ≡ false) × (length unread < size)
    × ((more : List ℕ) → next_request (unread ++ more) ≡ (if nat_lt (length (unread ++ more)) size then None else Some (takens.Faulty fault, size)))

-- a text that begins with a line of this many bytes, which asks for this, and is followed by any bytes
pub record StartsBy (unread : List ℕ) (m : Meaning) (line : ℕ) : Type 0 where
  pub size : (0 < line) × (line ≤ length unread)
  pub limit : line ≤ LINE_LIMIT
  pub next : (more : List ℕ) → next_request (unread ++ more) ≡ taken_by m line (drop line unread ++ more)

-- what is borrowed, as the request or fault that it is, with the bytes that it takes
abbrev pub lent_seen : Option (RequestRef × ℕ) → Option (Parsed × ℕ)
lent_seen None = None
lent_seen (Some lent) = Some (asked_of lent.0, lent.1)

-- what a fast look at bytes shows: nothing is whole; or their first request, which does not close; or a line, whose request is first if no
-- data block follows it
abbrev pub IsSeen : List ℕ → Look → Type 0
IsSeen unread looks.More = next_request unread ≡ None
IsSeen unread (looks.Get get) = (next_request unread ≡ Some (get_of get, get.front.size)) × (get.front.closes ≡ false)
IsSeen unread (looks.Line line) = (what : Parsed) → IsAlone line what → next_request unread ≡ Some (what, line.size)
IsSeen unread looks.Other = Unit {0}
