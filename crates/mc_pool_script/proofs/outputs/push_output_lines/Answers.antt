use Rattle.std.proofs.Common.{◌∙◌, ℕ, List, ◌++◌, codes, sym, ap, append_assoc}
use Rattle.mc_script.specs.Escapes.{client_line, client_lines}
use Rattle.mc_script.proofs.OutputLemmas.{named_lines_next}
use Rattle.mc_world.specs.Worlds.{put_out_of}
use Rattle.mc_pool_script.specs.Plays.{outs_of}
use Rattle.mc_pool_script.proofs.outputs.push_output_lines.Goals as goal

pub loop-client-preserved : goal.loop-client-preserved
loop-client-preserved g c =
    let course = c.args.world.now.course in
    let client = c.loop-client.client in
    let line = client_line client (put_out_of course client) in
    c.in_ok-push_client_line.ensures.line
    ∙ ap (λ (bytes : List ℕ). c.loop-client.out.items ++ client_line client bytes) (c.as_slice.ensures.value ∙ c.in-Ok.ensures.put_out)
    ∙ ap (λ (xs : List ℕ). xs ++ line) c.loop-client.invariant
    ∙ append_assoc c.args.out.now.items (client_lines (outs_of client course)) line
    ∙ ap (λ (xs : List ℕ). c.args.out.now.items ++ xs) (sym (named_lines_next (codes "client") (λ (n : ℕ). put_out_of course n) client))
