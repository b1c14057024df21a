use Rattle.std.proofs.Common.{◌∙◌, ℕ, List, ◌++◌, ap}
use Rattle.mc_script.specs.Escapes.{client_lines}
use Rattle.mc_pool_script.specs.Plays.{outs_of}
use Rattle.mc_pool_script.proofs.texts.text_of_pool_script.Goals as goal

pub returns-clause-text : goal.returns-clause-text
returns-clause-text g c =
    let played = c.in_ok-played.played in
    let course = played.world.course in
    record {
      script = c.in_ok-script.script;
      play = record { read = c.in_ok-script.ensures.script; steps = played.steps.items; world = played.world; played = c.in_ok-played.ensures.played };
      printed = c.in_ok-push_output_lines.ensures.lines ∙ ap (λ (xs : List ℕ). xs ++ client_lines (outs_of c.all_clients.result course)) c.new-text.ensures.items
          ∙ ap (λ (n : ℕ). client_lines (outs_of n course)) c.all_clients.ensures.clients;
    }
