use Rattle.std.proofs.Common.{◌≡◌, ◌∙◌, ℕ, List, ◌++◌, ap}
use Rattle.mc_script.specs.Escapes.{client_lines}
use Rattle.mc_pool_script.specs.Plays.{outs_of}
use Rattle.mc_pool_script.specs.PoolScripts.{clients_of}
use Rattle.mc_pool_script.specs.Printed.{account_lines}
use Rattle.mc_pool_script.proofs.texts.account_of_pool_script.Goals as goal

pub returns-clause-text : goal.returns-clause-text
returns-clause-text g c =
    let script = c.in_ok-script.script in
    let played = c.in_ok-played.played in
    let steps = played.steps.items in
    let course = played.world.course in
    let clients = c.all_clients-clients.result in
    let servers = c.server_count-servers.result in
    let outputs : c.push_output_lines.new.out.items ≡ client_lines (outs_of clients course) =
    c.in_ok-push_output_lines.ensures.lines ∙ ap (λ (xs : List ℕ). xs ++ client_lines (outs_of clients course)) c.new-text.ensures.items in
    record {
      script = script;
      play = record { read = c.in_ok-script.ensures.script; steps = steps; world = played.world; played = c.in_ok-played.ensures.played };
      printed = c.in_ok-push_account.ensures ∙ ap (λ (xs : List ℕ). xs ++ account_lines steps clients servers course) outputs
          ∙ ap (λ (n : ℕ). client_lines (outs_of n course) ++ account_lines steps n servers course) c.all_clients-clients.ensures.clients
          ∙ ap (λ (n : ℕ). client_lines (outs_of (clients_of script) course) ++ account_lines steps (clients_of script) n course) c.server_count-servers.ensures;
    }
