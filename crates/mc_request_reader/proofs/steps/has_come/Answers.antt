use Rattle.std.proofs.Common.{◌∙◌, sym}
use Rattle.mc_text.specs.Words.{words}
use Rattle.mc_request.specs.Meanings.{meaning}
use Rattle.mc_request_reader.proofs.StepLemmas.{has_come, block_has_come}
use Rattle.mc_request.proofs.WellFormedLemmas.{meaning_announces}
use Rattle.mc_request_reader.proofs.steps.has_come.Goals as goal

pub returns-in-Some : goal.returns-in-Some
returns-in-Some c =
    let block = meaning_announces (words c.args.content.now) ∙ sym c.in-Some.ensures in
    rw c.size_with_block.ensures (block_has_come c.args.unread.now c.args.taken (meaning (words c.args.content.now)) c.in-Some.len c.requires block)

pub returns-in-None : goal.returns-in-None
returns-in-None c =
    let block = meaning_announces (words c.args.content.now) ∙ sym c.in-None.ensures in
    sym (has_come c.args.unread.now c.args.taken (meaning (words c.args.content.now)) c.requires block)
