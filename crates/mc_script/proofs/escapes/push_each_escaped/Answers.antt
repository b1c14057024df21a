use Rattle.std.proofs.Common.{◌+◌, ◌≤◌, ◌++◌, ◌∙◌, ℕ, List, length, take, drop, ap, sym, append_assoc, arith}
use Rattle.mc_script.specs.Escapes.{escaped}
use Rattle.mc_script.proofs.EscapeLemmas.{escaped_more}
use Rattle.mc_script.proofs.escapes.push_each_escaped.Goals as goal

pub loop-done-preserved : goal.loop-done-preserved
loop-done-preserved c =
    let done = c.loop-done.done in
    let count = c.in_ok-done.field-0 in
    let bytes = c.args.bytes.now in
    let within : done + count ≤ length bytes = omega (arith, c.in_ok-done.ensures.inside, c.split_at.ensures.back_len) in
    let next : List ℕ = escaped (take count (drop done bytes)) in (
      within,
      c.in_ok-done.ensures.escaped ∙ ap (λ (rest : List ℕ). c.loop-done.out.items ++ escaped (take count rest)) c.split_at.ensures.back
          ∙ ap (λ (items : List ℕ). items ++ next) c.loop-done.invariant.1
          ∙ append_assoc c.args.out.now.items (escaped (take done bytes)) next
          ∙ ap (λ (more : List ℕ). c.args.out.now.items ++ more) (sym (escaped_more done count bytes)),
    )
