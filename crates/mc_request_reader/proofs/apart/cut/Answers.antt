use Rattle.std.proofs.Common.{sym, arith}
use Rattle.mc_text.proofs.LineLemmas.{first_line_whole-size}
use Rattle.mc_request_reader.proofs.ApartLemmas.{line_of_text, known_by}
use Rattle.mc_request_reader.proofs.apart.cut.Goals as goal

pub split_at-requires : goal.split_at-requires
split_at-requires c = (first_line_whole-size c.args.piece.now c.in-Whole.content.now c.in-Whole.taken (sym c.in-Whole.ensures)).1

pub block_after-requires : goal.block_after-requires
block_after-requires c = let line = line_of_text c.args.piece.now c.in-Whole.content.now c.in-Whole.taken (sym c.in-Whole.ensures) in rw c.split_at.ensures.front line

pub returns-in_ok-wanted-in-Whole-clause-known : goal.returns-in_ok-wanted-in-Whole-clause-known
returns-in_ok-wanted-in-Whole-clause-known c more =
    let size = first_line_whole-size c.args.piece.now c.in-Whole.content.now c.in-Whole.taken (sym c.in-Whole.ensures) in
    known_by c.args.piece.now _ more c.in-Whole.taken (grind (arith, c.in-115)) size.0 size.1 c.split_at.ensures.front
