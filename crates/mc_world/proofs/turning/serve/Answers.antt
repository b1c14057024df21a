use Rattle.std.proofs.Common.{rules, ◌≡◌, ◌∙◌, drop, length, ap, subst, List, ℕ, arith}
use Rattle.mc_server.specs.ServerState.{connection_at, output_of}
use Rattle.mc_server.specs.declared.turns.Turn.{Turn}
use Rattle.mc_server.specs.declared.turns.Turn.TheVariants.{Took}
use Rattle.mc_server.specs.Turns.{IsTurn, Steps}
use Rattle.mc_world.proofs.SiteEvents.TurnLemmas.{entered, output_grows}
use Rattle.mc_world.proofs.turning.serve.Goals as goal

pub split_at-requires : goal.split_at-requires
split_at-requires g c =
    let steps : Steps c.args.connection c.args.server.now c.turn.new.self (IsTurn c.args.connection c.args.moment Took) =
    subst (λ (t : Turn). Steps c.args.connection c.args.server.now c.turn.new.self (IsTurn c.args.connection c.args.moment t)) c.in-Took.is c.in_ok-turn.ensures.turn in
    let grows = output_grows c.args.connection c.args.moment c.args.server.now c.turn.new.self steps in
    let before : length c.output-before.result.now ≡ length (output_of (connection_at c.args.server.now c.args.connection)) = ap (λ (bytes : List ℕ). length bytes) c.output-before.ensures in
    let after : length c.output.result.now ≡ length (output_of (connection_at c.turn.new.self c.args.connection)) = ap (λ (bytes : List ℕ). length bytes) c.output.ensures in
    omega (arith, grows, before, after)

pub returns-clause-enters : goal.returns-clause-enters
returns-clause-enters g c =
    let steps : Steps c.args.connection c.args.server.now c.turn.new.self (IsTurn c.args.connection c.args.moment Took) =
    subst (λ (t : Turn). Steps c.args.connection c.args.server.now c.turn.new.self (IsTurn c.args.connection c.args.moment t)) c.in-Took.is c.in_ok-turn.ensures.turn in
    let reply_is : c.split_at.result.1.now ≡ drop (length (output_of (connection_at c.args.server.now c.args.connection))) (output_of (connection_at c.turn.new.self c.args.connection)) =
    search rules in
    let h = entered c.args.connection c.args.moment c.args.tag c.args.server.now c.turn.new.self c.args.history.now.items c.split_at.result.1.now c.eq-refused.result c.requires.moment c.requires.serves
    steps reply_is (search rules) in
    record { steps = h.steps; reply = h.reply; appended = h.appended; history = (search rules) ∙ h.history }
