-- The answers to operators.
use Rattle.std.specs.Prelude.{ℕ, Bool, true, false, List, [], ◌∷◌, ◌++◌, length, codes, decimal, Option, Some, None, is_some}
use Rattle.http1.specs.Fields.{Header}
use Rattle.http1.specs.Head.{response_text}
use Rattle.mc_admin.specs.Pages.{stats_text, settings_text, metrics_text, end_line}
use Rattle.mc_admin.specs.Conns.{part_text}
use Rattle.mc_admin.specs.declared.conns.Part.{Part}
use Rattle.mc_admin.specs.declared.admin_requests.AdminRequest.{AdminRequest}
use Rattle.mc_admin.specs.declared.admin_requests.AdminRequest.TheVariants.{Stats, Settings, Conns, Nothing, Version, Quit, Unknown, TooLong, Shown, Refused}
use Rattle.mc_admin.specs.declared.admin_requests.Page.TheVariants.{Overview, Metrics, Health}
use Rattle.mc_admin.specs.declared.admin_requests.Refusal.{Refusal}
use Rattle.mc_admin.specs.declared.admin_requests.Refusal.TheVariants.{BadRequest, NotFound, NotAllowed, NoBody, Misdirected, TooLarge}
use Rattle.mc_admin.specs.declared.figures.Sheet.{Sheet}
use Rattle.mc_admin.specs.declared.overview.TheConstants.{OVERVIEW, POLICY}

-- the status of a refusal
-- source: RFC 9110, section 15.5; RFC 6585, section 5
abbrev pub status_of : Refusal → ℕ
status_of BadRequest = 400
status_of NotFound = 404
status_of NotAllowed = 405
status_of NoBody = 405
status_of Misdirected = 421
status_of TooLarge = 431

-- the reason of a refusal
-- source: the same
abbrev pub reason_of : Refusal → List ℕ
reason_of BadRequest = codes "Bad Request"
reason_of NotFound = codes "Not Found"
reason_of NotAllowed = codes "Method Not Allowed"
reason_of NoBody = codes "Method Not Allowed"
reason_of Misdirected = codes "Misdirected Request"
reason_of TooLarge = codes "Request Header Fields Too Large"

-- the words of a refusal
abbrev pub words_of : Refusal → List ℕ
words_of BadRequest = codes "400: not a request of HTTP/1.0 or 1.1 with one Host\n"
words_of NotFound = codes "404: there are /, /metrics and /healthz\n"
words_of NotAllowed = codes "405: only GET is answered\n"
words_of NoBody = []
words_of Misdirected = codes "421: the Host is none of this listener's: see --admin-name\n"
words_of TooLarge = codes "431: a request has at most 4096 bytes\n"

-- the fields of a response with a body of this type and this length, in digits: after it the connection is closed
-- source: RFC 9110, sections 8.3, 8.6 and 10.2.1; RFC 9112, section 9.6
abbrev pub fields_of : List ℕ → List ℕ → List Header
fields_of type len =
    (codes "content-type", type) ∷ (codes "content-length", len) ∷ (codes "connection", codes "close")
    ∷ (codes "allow", codes "GET") ∷ []

-- a response, with further fields
unfoldable pub response : ℕ → List ℕ → List ℕ → List Header → List ℕ → List ℕ
response status reason type further body =
    response_text 1 status reason (fields_of type (decimal (length body)) ++ further) ++ body

-- the types of bodies
-- source: Prometheus, "Exposition formats", text format 0.0.4
abbrev pub metrics_type : List ℕ
metrics_type = codes "text/plain; version=0.0.4; charset=utf-8"

abbrev pub plain_type : List ℕ
plain_type = codes "text/plain; charset=utf-8"

abbrev pub html_type : List ℕ
html_type = codes "text/html; charset=utf-8"

-- the page for people, and what a browser may do with it
-- source: W3C, Content Security Policy Level 3
unfoldable pub overview_text : List ℕ
overview_text = OVERVIEW.now

unfoldable pub policy_text : List ℕ
policy_text = POLICY.now

-- the fields that the page has beside those of any response
-- source: the same; WHATWG, Fetch, "X-Content-Type-Options"
abbrev pub overview_fields : List Header
overview_fields = (codes "content-security-policy", policy_text) ∷ (codes "x-content-type-options", codes "nosniff") ∷ []

-- the answer to what is asked
unfoldable pub answer_to : AdminRequest → Sheet → List ℕ
answer_to Stats sheet = stats_text sheet.figures.now
answer_to Settings sheet = settings_text sheet.settings.now
answer_to Conns sheet = part_text sheet.part
answer_to Nothing sheet = end_line
answer_to Version sheet = codes "VERSION 1.6.0\r\n"
answer_to Quit sheet = []
answer_to Unknown sheet = codes "ERROR\r\n"
answer_to TooLong sheet = codes "CLIENT_ERROR line too long\r\n"
answer_to (Shown Overview) sheet = response 200 (codes "OK") html_type overview_fields overview_text
answer_to (Shown Metrics) sheet = response 200 (codes "OK") metrics_type [] (metrics_text sheet.figures.now)
answer_to (Shown Health) sheet = response 200 (codes "OK") plain_type [] (codes "ok\n")
answer_to (Refused refusal) sheet = response (status_of refusal) (reason_of refusal) plain_type [] (words_of refusal)

-- whether a further part follows this one, or the first one is still missing
abbrev pub has_next : Option Part → Bool
has_next None = true
has_next (Some part) = is_some part.next

-- whether the next turn answers the same request further: a list of clients is sent in parts
abbrev pub is_listed_on : AdminRequest → Sheet → Bool
is_listed_on Conns sheet = has_next sheet.part
is_listed_on _ sheet = false
