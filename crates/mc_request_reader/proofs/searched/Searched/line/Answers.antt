use Rattle.std.proofs.Common.{◌<◌, sym, arith}
use Rattle.mc_text.proofs.LineLemmas.{first_line-at, line_end_inside, line_end_low}
use Rattle.mc_request_reader.proofs.searched.Searched.line.Goals as goal

pub content_to-requires : goal.content_to-requires
content_to-requires c = omega (arith, line_end_inside c.args.bytes.now c.in-Ends.end (rw c.in-Ends.is at c.requires))

pub overflow_add-result : goal.overflow_add-result
overflow_add-result c =
    let low : c.in-Ends.end < 65536 = line_end_low c.args.bytes.now c.in-Ends.end (rw c.in-Ends.is at c.requires) in
    omega (arith, low)

pub returns-in-Ends-clause-line : goal.returns-in-Ends-clause-line
returns-in-Ends-clause-line c =
    rw c.content_to.ensures (sym (first_line-at c.args.bytes.now c.in-Ends.end (rw c.in-Ends.is at c.requires)))
