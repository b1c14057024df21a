use Rattle.std.proofs.Common.{sym}
use Rattle.mc_request.specs.LinesSeen.{meaning_of}
use Rattle.std.specs.Prelude.{None}
use Rattle.mc_request.specs.Meanings.{Alone}
use Rattle.mc_request.specs.declared.parts.Request.TheVariants.{Get}
use Rattle.mc_request.specs.declared.parts.Parsed.TheVariants.{Whole}
use Rattle.mc_request_reader.proofs.StepLemmas.{starts_by, starts_now, partial_none, too_long_fault}
use Rattle.mc_request_reader.proofs.steps.first_asked.Goals as goal

pub asked_after-requires : goal.asked_after-requires
asked_after-requires c =
    starts_by c.args.unread.now c.in-Whole.content.now c.in-Whole.taken (meaning_of c.command_line.result) (sym c.in-Whole.ensures.line) (sym c.command_line.ensures)

pub returns-in-Partial : goal.returns-in-Partial
returns-in-Partial c = sym (partial_none c.args.unread.now (sym c.in-Partial.ensures.line))

pub returns-in-TooLong : goal.returns-in-TooLong
returns-in-TooLong c = sym (too_long_fault c.args.unread.now (sym c.in-TooLong.ensures.line))

-- a good retrieval line is taken alone
pub returns-in-Some : goal.returns-in-Some
returns-in-Some c =
    let asked = Alone (Whole (Get c.in-Some.keys None c.in-Some.with_cas)) in
    let starts = starts_by c.args.unread.now c.in-Whole.content.now c.in-Whole.taken asked (sym c.in-Whole.ensures.line) c.in-Some.ensures in
    sym (starts_now c.args.unread.now asked c.in-Whole.taken starts)
