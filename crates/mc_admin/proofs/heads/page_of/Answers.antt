use Rattle.std.proofs.Common.{◌∙◌, ℕ, List, ap, codes, map, Ok}
use Rattle.httparse.specs.declared.spans.HeaderSpan.{HeaderSpan}
use Rattle.httparse.specs.declared.Status.TheVariants.{Complete}
use Rattle.httparse.specs.Spans.{IsRequestOf, FindsRequest, header_bytes, span_bytes}
use Rattle.http1.specs.Fields.{values_named}
use Rattle.mc_admin.specs.AdminRequests.{asked_by}
use Rattle.mc_admin.specs.declared.heads.TheConstants.{FIELD_LIMIT}
use Rattle.mc_admin.proofs.HeadLemmas.{page_is_read}
use Rattle.mc_admin.proofs.heads.page_of.Goals as goal

pub returns-in-Ok-Complete : goal.returns-in-Ok-Complete
returns-in-Ok-Complete c =
    let hosts = c.args.hosts.now in
    let text = c.args.head.now in
    let spans = c.in-Ok-Complete.spans in
    let fields = c.parse_request.new.headers in
    let found = c.split_at.result.0.now in
    let values = values_named (codes "host") (map (header_bytes text) found) in
    let complete : IsRequestOf text fields spans = rw c.in-Ok-Complete.field-0-is at c.in-Ok-Complete.ensures.complete in
    let finds : FindsRequest text FIELD_LIMIT fields (Ok (Complete spans)) =
    rw c.in-Ok-Complete.field-0-is at c.in-Ok-Complete.ensures.found
    in
    page_is_read hosts text fields spans c.asked_by.result complete finds
    (c.asked_by.ensures values c.host_among-host.ensures
    ∙ ap (λ (m : List ℕ). asked_by hosts m c.of-target.result.now spans.version values) c.of-method.ensures
    ∙ ap (λ (t : List ℕ). asked_by hosts (span_bytes text spans.method) t spans.version values) c.of-target.ensures
    ∙ ap (λ (fs : List HeaderSpan). asked_by hosts (span_bytes text spans.method) (span_bytes text spans.path) spans.version
    (values_named (codes "host") (map (header_bytes text) fs))) c.split_at.ensures.front)
