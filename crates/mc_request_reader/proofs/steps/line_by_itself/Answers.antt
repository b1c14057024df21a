use Rattle.std.proofs.Common.{length, sym}
use Rattle.mc_text.specs.Words.{words}
use Rattle.mc_request.specs.LinesSeen.{meaning_of}
use Rattle.mc_request.proofs.WellFormedLemmas.{meaning_good}
use Rattle.mc_request_reader.proofs.StepLemmas.{starts_by}
use Rattle.mc_request_reader.proofs.ApartLemmas.{line_is}
use Rattle.mc_request_reader.proofs.steps.line_by_itself.Goals as goal

pub returns-clause-starts : goal.returns-clause-starts
returns-clause-starts c =
    starts_by c.args.line.now c.content_to.result.now (length c.args.line.now) (meaning_of c.command_line.result) (rw c.content_to.ensures (line_is c.args.line.now c.requires)) (sym c.command_line.ensures)

pub returns-clause-good : goal.returns-clause-good
returns-clause-good c = rw c.command_line.ensures (meaning_good (words c.content_to.result.now))
