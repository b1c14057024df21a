use Rattle.std.proofs.Common.{◌∙◌, sym, refl, arith}
use Rattle.mc_text.specs.Words.{words}
use Rattle.mc_text.proofs.LineLemmas.{first_line_whole-size}
use Rattle.mc_request.specs.Meanings.{meaning}
use Rattle.mc_request.specs.LinesSeen.{meaning_of}
use Rattle.mc_request_reader.proofs.StepLemmas.{starts_by, line_ends, partial_none, too_long_fault, one_wanted, not_come}
use Rattle.mc_request.proofs.WellFormedLemmas.{meaning_good}
use Rattle.mc_request_reader.proofs.steps.arrival_of.Goals as goal

pub has_come-requires : goal.has_come-requires
has_come-requires c =
    starts_by c.args.unread.now c.in-Whole.content.now c.in-Whole.taken (meaning (words c.in-Whole.content.now)) (sym c.in-Whole.ensures.line) refl

pub arrival_after-requires-clause-starts : goal.arrival_after-requires-clause-starts
arrival_after-requires-clause-starts c =
    starts_by c.args.unread.now c.in-Whole.content.now c.in-Whole.taken (meaning_of c.command_line.result) (sym c.in-Whole.ensures.line) (sym c.command_line.ensures)

pub arrival_after-requires-clause-line : goal.arrival_after-requires-clause-line
arrival_after-requires-clause-line c =
    line_ends c.args.unread.now c.in-Whole.content.now c.in-Whole.taken (sym c.in-Whole.ensures.line)

pub arrival_after-requires-clause-waits : goal.arrival_after-requires-clause-waits
arrival_after-requires-clause-waits c = not_come _ (sym c.has_come.ensures ∙ c.if-has_come.false)

pub arrival_after-requires-clause-good : goal.arrival_after-requires-clause-good
arrival_after-requires-clause-good c = rw c.command_line.ensures (meaning_good (words c.in-Whole.content.now))

pub returns-in-Partial : goal.returns-in-Partial
returns-in-Partial c =
    let none = partial_none c.args.unread.now (sym c.in-Partial.ensures.line) in
    record {
      searched = c.in-Partial.ensures.partial;
      short = one_wanted c.args.unread.now none;
      few = omega arith;
      limit = omega (arith, c.in-Partial.ensures.short);
      whole = λ sure. absurd cc;
    }

pub returns-in-TooLong : goal.returns-in-TooLong
returns-in-TooLong c = (sym c.in-TooLong.ensures.line, rw (too_long_fault c.args.unread.now (sym c.in-TooLong.ensures.line)) refl)

pub overflow_sub-result : goal.overflow_sub-result
overflow_sub-result c = omega (arith, (first_line_whole-size c.args.unread.now c.in-Whole.content.now c.in-Whole.taken (sym c.in-Whole.ensures.line)).0)

pub returns-then-has_come : goal.returns-then-has_come
returns-then-has_come c = (
  line_ends c.args.unread.now c.in-Whole.content.now c.in-Whole.taken (sym c.in-Whole.ensures.line),
  sym c.has_come.ensures ∙ c.if-has_come.true,
)
