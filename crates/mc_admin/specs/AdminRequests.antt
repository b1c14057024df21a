-- What a line, or a request of HTTP, asks for.
use Rattle.std.specs.Prelude.{◌≡◌, ℕ, ◌≤◌, ◌-◌, ◌==◌, ◌||◌, Bool, true, false, List, [], ◌∷◌, length, take, map, reverse, codes, bytes_eq, if◌then◌else◌, Result, Ok, Err, Option, Some, None, IfOk}
use Rattle.std.specs.List.{before_first}
use Rattle.std.specs.Str.Lines.{strip_carriage_return}
use Rattle.httparse.specs.Grammar.{RequestHead, ReadsRequest, HasNoRequest, skip_ows}
use Rattle.httparse.specs.Spans.{name_and_value}
use Rattle.http1.specs.Fields.{values_named}
use Rattle.mc_admin.specs.Hosts.{host_of, is_known}
use Rattle.mc_admin.specs.Requests.{InboxState}
use Rattle.mc_admin.specs.declared.admin_requests.AdminRequest.{AdminRequest}
use Rattle.mc_admin.specs.declared.admin_requests.AdminRequest.TheVariants.{Stats, Settings, Conns, Nothing, Version, Quit, Unknown, TooLong, Shown, Refused}
use Rattle.mc_admin.specs.declared.admin_requests.Page.{Page}
use Rattle.mc_admin.specs.declared.admin_requests.Page.TheVariants.{Overview, Metrics, Health}
use Rattle.mc_admin.specs.declared.admin_requests.Refusal.{Refusal}
use Rattle.mc_admin.specs.declared.admin_requests.Refusal.TheVariants.{BadRequest, NotFound, NotAllowed, NoBody, Misdirected, TooLarge}
use Rattle.mc_admin.specs.declared.hosts.Hosts.{Hosts}
use Rattle.mc_admin.specs.declared.inboxes.Phase.{Phase}
use Rattle.mc_admin.specs.declared.inboxes.Phase.TheVariants.{LineEnded, HeadEnded, LineTooLong, HeadTooLarge}
use Rattle.mc_admin.specs.declared.heads.TheConstants.{FIELD_LIMIT}
use Rattle.mc_admin.specs.declared.heads.Found.{Found}
use Rattle.mc_admin.specs.declared.heads.Found.TheVariants.{Absent, One, Several}

-- a text without the spaces and tabs at its end
abbrev pub without_blanks : List ℕ → List ℕ
without_blanks text = reverse (skip_ows (reverse text))

-- a whole line without its line feed, without one carriage return in front of that, and without the blanks in front of it, which
-- libmemcached sends
abbrev pub content_of : List ℕ → List ℕ
content_of line = without_blanks (strip_carriage_return (take (length line - 1) line))

-- what a line asks for
-- source: memcached's protocol.txt, "Statistics", "version", "quit"
abbrev pub named : List ℕ → AdminRequest
named word =
    if bytes_eq word (codes "stats") then Stats
    else if bytes_eq word (codes "stats settings") then Settings
    else if bytes_eq word (codes "stats conns") then Conns
    else if bytes_eq word (codes "stats items") || bytes_eq word (codes "stats slabs") then Nothing
    else if bytes_eq word (codes "version") then Version
    else if bytes_eq word (codes "quit") then Quit
    else Unknown

-- the page at a path
abbrev pub page_at : List ℕ → Result Page Refusal
page_at path =
    if bytes_eq path (codes "/") then Ok Overview
    else if bytes_eq path (codes "/metrics") then Ok Metrics
    else if bytes_eq path (codes "/healthz") then Ok Health
    else Err NotFound

-- the page of a target: the text from a question mark (63) on is ignored
abbrev pub page_of_target : List ℕ → Result Page Refusal
page_of_target target = page_at (before_first (λ b. b == 63) target)

-- the page of a request, given the values of its fields Host: a request of HTTP/1.1 has one, and one of HTTP/1.0 may have none
-- source: RFC 9112, section 3.2
abbrev pub page_for : Hosts → List ℕ → ℕ → List (List ℕ) → Result Page Refusal
page_for hosts target minor [] = if minor == 0 then page_of_target target else Err BadRequest
page_for hosts target minor (value ∷ []) = if is_known hosts (host_of value) then page_of_target target else Err Misdirected
page_for hosts target minor (value ∷ next ∷ more) = Err BadRequest

-- what a request asks for: only GET is answered, and a refusal to HEAD has no body
-- source: RFC 9110, sections 9.3.1, 9.3.2 and 15.5.6
abbrev pub asked_by : Hosts → List ℕ → List ℕ → ℕ → List (List ℕ) → Result Page Refusal
asked_by hosts method target minor values =
    if bytes_eq method (codes "GET") then page_for hosts target minor values
    else if bytes_eq method (codes "HEAD") then Err NoBody
    else Err NotAllowed

-- what a head asks for
unfoldable pub asked_by_head : Hosts → RequestHead → Result Page Refusal
asked_by_head hosts h = asked_by hosts h.method h.target h.minor (values_named (codes "host") (map name_and_value h.fields))

-- the result of the bytes of a head: what they ask for if they are one, and else that they are refused
pub record ReadsPage (hosts : Hosts) (text : List ℕ) (r : Result Page Refusal) : Type 0 where
  pub read : (h : RequestHead) (rest : List ℕ) → ReadsRequest text h rest → length h.fields ≤ FIELD_LIMIT → r ≡ asked_by_head hosts h
  pub given : IfOk r (λ page. (h : RequestHead) × (rest : List ℕ) × ReadsRequest text h rest × (asked_by_head hosts h ≡ Ok page))
  pub refused : HasNoRequest text → r ≡ Err BadRequest

-- a page, or its refusal
abbrev pub shown : Result Page Refusal → AdminRequest
shown (Ok page) = Shown page
shown (Err refusal) = Refused refusal

-- what a request asks for, by how far it is: nothing, until it has ended
abbrev pub asks_in : Phase → Hosts → List ℕ → Option AdminRequest → Type 0
asks_in LineEnded hosts text r = r ≡ Some (named (content_of text))
asks_in HeadEnded hosts text r = (page : Result Page Refusal) × ReadsPage hosts text page × (r ≡ Some (shown page))
asks_in LineTooLong hosts text r = r ≡ Some TooLong
asks_in HeadTooLarge hosts text r = r ≡ Some (Refused TooLarge)
asks_in _ hosts text r = r ≡ None

-- what a request asks for
abbrev pub Asks : Hosts → InboxState → Option AdminRequest → Type 0
Asks hosts s r = asks_in s.phase hosts s.text r

-- after it the connection is closed: lines except `quit` and one too long go on
abbrev pub ends : AdminRequest → Bool
ends Stats = false
ends Settings = false
ends Conns = false
ends Nothing = false
ends Version = false
ends Unknown = false
ends _ = true

-- how many values these are: none, the one, or several
abbrev pub IsFound : List (List ℕ) → Found → Type 0
IsFound [] Absent = Unit {0}
IsFound (value ∷ []) (One found) = found.now ≡ value
IsFound (value ∷ next ∷ more) Several = Unit {0}
IsFound _ _ = ⊥
