use Rattle.std.proofs.Common.{◌∙◌, ℕ, List, ◌++◌, sym, ap, append_assoc}
use Rattle.mc_server.specs.ServerState.{connection_at, output_of}
use Rattle.mc_script.specs.Escapes.{client_line, client_lines}
use Rattle.mc_script.specs.Plays.{outputs_of}
use Rattle.mc_script.proofs.OutputLemmas.{output_lines_more}
use Rattle.mc_script.proofs.outputs.push_output_lines.Goals as goal

pub loop-client-preserved : goal.loop-client-preserved
loop-client-preserved g c =
    let server = c.args.server.now in
    let client = c.loop-client.client in
    let line = client_line client (output_of (connection_at server client)) in
    c.in_ok-push_client_line.ensures.line
    ∙ ap (λ (bytes : List ℕ). c.loop-client.out.items ++ client_line client bytes) c.output.ensures
    ∙ ap (λ (xs : List ℕ). xs ++ line) c.loop-client.invariant
    ∙ append_assoc c.args.out.now.items (client_lines (outputs_of client server)) line
    ∙ ap (λ (xs : List ℕ). c.args.out.now.items ++ xs) (sym (output_lines_more client server))
