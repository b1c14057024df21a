use Rattle.std.proofs.Common.{◌≡◌, ◌∙◌, sym}
use Rattle.std.specs.Prelude.{codes}
use Rattle.std.proofs.lemmas.Slice.Eq.{bytes_eq-Decides}
use Rattle.mc_request.proofs.RetrievalLemmas.{begins_get, begins_gets}
use Rattle.mc_request.proofs.command_lines.keys_after_name.Goals as goal

pub returns-then-eq : goal.returns-then-eq
returns-then-eq c =
    let is : c.split_at.result.0.now ≡ codes "get " = (bytes_eq-Decides c.split_at.result.0.now c.as_slice.result.now).0 (sym c.if-eq.ensures) ∙ c.as_slice.ensures in
    rw (c.words.ensures, c.split_at-then-eq.ensures.back) (begins_get c.min.result c.args.content.now (sym c.split_at.ensures.front ∙ is))

pub returns-then-eq-2 : goal.returns-then-eq-2
returns-then-eq-2 c =
    let is : c.split_at-2.result.0.now ≡ codes "gets " = (bytes_eq-Decides c.split_at-2.result.0.now c.as_slice-2.result.now).0 (sym c.if-eq-2.ensures) ∙ c.as_slice-2.ensures in
    rw (c.words-then-eq-2.ensures, c.split_at-then-eq-2.ensures.back) (begins_gets c.min-2.result c.args.content.now (sym c.split_at-2.ensures.front ∙ is))
