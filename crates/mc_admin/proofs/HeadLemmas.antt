-- What a head that was read asks for.
use Rattle.std.proofs.Common.{◌≡◌, ◌∙◌, ℕ, List, map, take, codes, sym, ap, Result, Ok, Err, IfOk}
use Rattle.httparse.specs.declared.spans.HeaderSpan.{HeaderSpan}
use Rattle.httparse.specs.declared.spans.RequestSpans.{RequestSpans}
use Rattle.httparse.specs.declared.Status.TheVariants.{Complete}
use Rattle.httparse.specs.Grammar.{RequestHead, ReadsRequest}
use Rattle.httparse.specs.Spans.{IsRequestAt, IsRequestOf, FindsRequest, header_bytes, span_bytes}
use Rattle.http1.specs.Fields.{Header, values_named}
use Rattle.mc_admin.specs.AdminRequests.{ReadsPage, asked_by, asked_by_head}
use Rattle.mc_admin.specs.declared.admin_requests.Page.{Page}
use Rattle.mc_admin.specs.declared.admin_requests.Refusal.{Refusal}
use Rattle.mc_admin.specs.declared.hosts.Hosts.{Hosts}
use Rattle.mc_admin.specs.declared.heads.TheConstants.{FIELD_LIMIT}

-- what the spans of a head ask for is what the head asks for
pub asked_at : (hosts : Hosts) (text : List ℕ) (fields : List HeaderSpan) (spans : RequestSpans) (h : RequestHead)
    → IsRequestAt text fields spans h
    → asked_by hosts (span_bytes text spans.method) (span_bytes text spans.path) spans.version
    (values_named (codes "host") (map (header_bytes text) (take spans.headers fields)))
    ≡ asked_by_head hosts h
unfolding asked_by_head
asked_at hosts text fields spans h at =
    ap (λ (m : List ℕ). asked_by hosts m (span_bytes text spans.path) spans.version
    (values_named (codes "host") (map (header_bytes text) (take spans.headers fields)))) at.method
    ∙ ap (λ (t : List ℕ). asked_by hosts h.method t spans.version
    (values_named (codes "host") (map (header_bytes text) (take spans.headers fields)))) at.path
    ∙ ap (λ (v : ℕ). asked_by hosts h.method h.target v
    (values_named (codes "host") (map (header_bytes text) (take spans.headers fields)))) at.version
    ∙ ap (λ (fs : List Header). asked_by hosts h.method h.target h.minor (values_named (codes "host") fs)) at.fields

-- a page is given by a head that was read
pub given_by : (hosts : Hosts) (text : List ℕ) (h : RequestHead) (rest : List ℕ) (r : Result Page Refusal)
    → ReadsRequest text h rest → r ≡ asked_by_head hosts h
    → IfOk r (λ page. (k : RequestHead) × (left : List ℕ) × ReadsRequest text k left × (asked_by_head hosts k ≡ Ok page))
given_by hosts text h rest (Ok page) reads is = (h, rest, reads, sym is)
given_by hosts text h rest (Err e) reads is = tt

-- the result of a head that was read, once it is known what its spans ask for
pub page_is_read : (hosts : Hosts) (text : List ℕ) (fields : List HeaderSpan) (spans : RequestSpans) (r : Result Page Refusal)
    → IsRequestOf text fields spans → FindsRequest text FIELD_LIMIT fields (Ok (Complete spans))
    → r ≡ asked_by hosts (span_bytes text spans.method) (span_bytes text spans.path) spans.version
    (values_named (codes "host") (map (header_bytes text) (take spans.headers fields)))
    → ReadsPage hosts text r
page_is_read hosts text fields spans r (h, at) finds is = record {
  read = λ k rest reads few. is ∙ asked_at hosts text fields spans k (finds k rest reads few);
  given = given_by hosts text h _ r at.reads (is ∙ asked_at hosts text fields spans h at);
  refused = λ none. absurd (none h _ at.reads);
}
