use Rattle.std.proofs.Common.{sym, refl}
use Rattle.mc_text.specs.Words.{words}
use Rattle.mc_request.specs.Meanings.{meaning}
use Rattle.mc_request_reader.proofs.StepLemmas.{starts_by, partial_none, too_long_fault}
use Rattle.mc_request_reader.proofs.steps.is_whole.Goals as goal

pub has_come-requires : goal.has_come-requires
has_come-requires c =
    starts_by c.args.unread.now c.in-Whole.content.now c.in-Whole.taken (meaning (words c.in-Whole.content.now)) (sym c.in-Whole.ensures.line) refl

pub returns-in-Partial : goal.returns-in-Partial
returns-in-Partial c = rw (partial_none c.args.unread.now (sym c.in-Partial.ensures.line)) refl

pub returns-in-TooLong : goal.returns-in-TooLong
returns-in-TooLong c = rw (too_long_fault c.args.unread.now (sym c.in-TooLong.ensures.line)) refl
