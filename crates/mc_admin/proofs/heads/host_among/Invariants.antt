use Rattle.std.proofs.Common.{map, take, codes}
use Rattle.httparse.specs.Spans.{header_bytes}
use Rattle.http1.specs.Fields.{values_named}
use Rattle.mc_admin.specs.AdminRequests.{IsFound}
use Rattle.mc_admin.proofs.heads.host_among.Given as goal

abbrev pub invariant-loop-field : goal.invariant-loop-field
invariant-loop-field l = IsFound (values_named (codes "host") (map (header_bytes l.head) (take l.field-index l.fields))) l.found
