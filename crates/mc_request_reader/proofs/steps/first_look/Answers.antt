use Rattle.std.proofs.Common.{refl, sym}
use Rattle.std.specs.Prelude.{None}
use Rattle.mc_request.specs.Meanings.{Alone}
use Rattle.mc_request.specs.declared.parts.Request.TheVariants.{Get}
use Rattle.mc_request.specs.declared.parts.Parsed.TheVariants.{Whole}
use Rattle.mc_request_reader.proofs.StepLemmas.{starts_by, starts_now}
use Rattle.mc_request_reader.proofs.steps.first_look.Goals as goal

-- a good retrieval line is taken alone
pub returns-in-Whole : goal.returns-in-Whole
returns-in-Whole c =
    let asked = Alone (Whole (Get c.in-Some.keys None c.in-Some.with_cas)) in
    let starts = starts_by c.args.unread.now c.in-Whole.content.now c.in-Whole.size asked (sym c.in-Whole.ensures.line) c.in-Some.ensures in
    (starts_now c.args.unread.now asked c.in-Whole.size starts, refl)

-- what no data block follows takes its line
pub returns-else-eq : goal.returns-else-eq
returns-else-eq c what means =
    let starts = starts_by c.args.unread.now c.in-Whole.content.now c.in-Whole.size (Alone what) (sym c.in-Whole.ensures.line) means in
    starts_now c.args.unread.now (Alone what) c.in-Whole.size starts
