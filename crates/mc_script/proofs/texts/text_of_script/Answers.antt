use Rattle.std.proofs.Common.{rules, ◌≡◌, ◌∙◌, ap, Err}
use Rattle.mc_script.specs.declared.errors.SimError.{SimError}
use Rattle.mc_script.specs.declared.errors.SimError.TheVariants.{BadLine}
use Rattle.mc_script.proofs.texts.text_of_script.Goals as goal

-- the error of `read_script` is returned
pub returns-in_err-script-clause-bad_line : goal.returns-in_err-script-clause-bad_line
returns-in_err-script-clause-bad_line g c line =
    let error : SimError = c.in_err-script.field-0.0 in
    let same : c.from_residual.result ≡ Err error = search rules in
    let was = c.in_err-script.ensures.bad_line line in (
      λ is. let at : error ≡ BadLine line = cc in was.0 (ap (λ (e : SimError). Err e) at),
      λ is. let first = was.1 is in let at : error ≡ BadLine line = cc in same ∙ ap (λ (e : SimError). Err e) at,
    )
