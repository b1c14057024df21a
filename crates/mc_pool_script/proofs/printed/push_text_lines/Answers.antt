use Rattle.std.proofs.Common.{◌∙◌, ℕ, List, ◌++◌, codes, sym, ap, append_assoc}
use Rattle.mc_script.specs.Escapes.{named_line}
use Rattle.mc_script.proofs.OutputLemmas.{named_lines_next}
use Rattle.mc_world.specs.Worlds.{text_of}
use Rattle.mc_pool_script.specs.Printed.{text_lines}
use Rattle.mc_pool_script.proofs.printed.push_text_lines.Goals as goal

pub loop-client-preserved : goal.loop-client-preserved
loop-client-preserved g c =
    let course = c.args.world.now.course in
    let client = c.loop-client.client in
    let line = named_line (codes "text") client (text_of course client) in
    c.in_ok-push_named_line.ensures.line
    ∙ ap (λ (bytes : List ℕ). c.loop-client.out.items ++ named_line (codes "text") client bytes) c.text.ensures
    ∙ ap (λ (xs : List ℕ). xs ++ line) c.loop-client.invariant
    ∙ append_assoc c.args.out.now.items (text_lines client course) line
    ∙ ap (λ (xs : List ℕ). c.args.out.now.items ++ xs) (sym (named_lines_next (codes "text") (λ (n : ℕ). text_of course n) client))
