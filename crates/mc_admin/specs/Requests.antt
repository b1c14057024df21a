-- The bytes of a connection, one by one, and the end of its first request, however they are cut.
use Rattle.std.specs.Prelude.{◌≡◌, ℕ, ◌<◌, ◌≤◌, ◌+◌, ◌-◌, ◌==◌, Bool, true, false, nat_lt, nat_eq, List, [], ◌∷◌, ◌++◌, length, drop, codes, if◌then◌else◌}
use Rattle.std.specs.List.{starts_with}
use Rattle.std.specs.Str.Lines.{strip_carriage_return}
use Rattle.mc_admin.specs.declared.inboxes.TheConstants.{REQUEST_LIMIT}
use Rattle.mc_admin.specs.declared.inboxes.Phase.{Phase}
use Rattle.mc_admin.specs.declared.inboxes.Phase.TheVariants.{Line, Start, Return, Field, LineEnded, HeadEnded, LineTooLong, HeadTooLarge}

-- what is kept of a request: its bytes, and how far it is
pub record InboxState : Type 0 where
  pub text : List ℕ
  pub phase : Phase

-- a request of which no byte has arrived
abbrev pub fresh_inbox : InboxState
fresh_inbox = record { text = []; phase = Line }

-- A line is the first of a request of HTTP if it ends in a space, HTTP/ and three bytes, as 1.1.
-- source: RFC 9112, section 3
abbrev pub is_http_line : List ℕ → Bool
is_http_line line =
    let content = strip_carriage_return line in starts_with nat_eq (drop (length content - 9) content) (codes " HTTP/")

-- the phase of a request after one more byte, with these bytes in front of it: a line ends with its line feed (10), and a head
-- with its first empty line (13 is a carriage return)
-- source: memcached's protocol.txt; RFC 9112, section 2.1
abbrev pub after : Phase → List ℕ → ℕ → Phase
after Line text b = if b == 10 then (if is_http_line text then Start else LineEnded) else Line
after Start text b = if b == 10 then HeadEnded else if b == 13 then Return else Field
after Return text b = if b == 10 then HeadEnded else Field
after Field text b = if b == 10 then Start else Field
after ended text b = ended

-- a request that has not ended is too long
abbrev pub too_long : Phase → Phase
too_long Line = LineTooLong
too_long Start = HeadTooLarge
too_long Return = HeadTooLarge
too_long Field = HeadTooLarge
too_long ended = ended

-- a request has ended: nothing more is taken of it
abbrev pub is_over : Phase → Bool
is_over Line = false
is_over Start = false
is_over Return = false
is_over Field = false
is_over ended = true

-- a request that has REQUEST_LIMIT bytes and no end is too long
abbrev pub bounded : Phase → ℕ → Phase
bounded phase len = if nat_lt len REQUEST_LIMIT then phase else too_long phase

-- a request with one more byte
unfoldable pub with_byte : InboxState → ℕ → InboxState
with_byte s b = record { text = s.text ++ b ∷ []; phase = bounded (after s.phase s.text b) (length s.text + 1) }

-- a request that takes bytes until it ends, and the bytes that it leaves
unfoldable pub taking : InboxState → List ℕ → InboxState × List ℕ
taking s [] = (s, [])
taking s (b ∷ bs) = if is_over s.phase then (s, b ∷ bs) else taking (with_byte s b) bs

-- bytes that arrive later go on after those before
unfoldable pub continued : InboxState × List ℕ → List ℕ → InboxState × List ℕ
continued (s, []) more = taking s more
continued (s, (b ∷ bs)) more = (s, (b ∷ bs) ++ more)

-- a request of this length in a buffer of this capacity: there is room for all bytes that may arrive
pub record HasRoom (len capacity : ℕ) (phase : Phase) : Type 0 where
  pub room : REQUEST_LIMIT ≤ capacity
  pub short : is_over phase ≡ false → len < REQUEST_LIMIT
