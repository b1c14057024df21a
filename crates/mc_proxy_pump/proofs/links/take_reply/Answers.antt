use Rattle.std.proofs.Common.{◌∙◌, List, ℕ, Err, ap, sym, subst}
use Rattle.mc_proxy.specs.LinkTurns.{IsLinkTurn}
use Rattle.mc_proxy.specs.declared.turns.LinkStep.TheVariants.{Took, Strange}
use Rattle.mc_stream.specs.declared.outcomes.Pumped.TheVariants.{Failed}
use Rattle.mc_proxy_pump.specs.LinkCalls.{with_woken}
use Rattle.mc_proxy_pump.specs.LinkRounds.{TakesReply}
use Rattle.mc_proxy_pump.proofs.LinkLemmas.{own_session, reply_strange, reply_taken}
use Rattle.mc_proxy_pump.proofs.links.take_reply.Goals as goal

pub returns-in-Some : goal.returns-in-Some
returns-in-Some c =
    let answers : IsLinkTurn c.args.server Took c.args.proxy.now c.link_turn.new.self = rw c.in-Ok-Took.field-0-is at c.in-Ok-Took.ensures.turn in
    reply_taken c.args.server c.in-Some.tag.session c.args.proxy.now c.link_turn.new.self c.args.woken.now.items c.wake.new.woken.items answers c.requires
    (own_session c.args.server c.args.proxy.now c.link_turn.new.self answers c.in-Some.tag c.in-Some.ensures)
    (c.wake.ensures ∙ ap (λ (ws : List ℕ). with_woken c.in-Some.tag.session ws) c.reserve.ensures.items)

pub returns-in-Ok-Strange : goal.returns-in-Ok-Strange
returns-in-Ok-Strange c =
    let lost : IsLinkTurn c.args.server Strange c.args.proxy.now c.link_turn.new.self = rw c.in-Ok-Strange.field-0-is at c.in-Ok-Strange.ensures.turn in
    let P : List ℕ → Type 0 = λ ws. TakesReply c.args.server (Err Failed) c.args.proxy.now c.link_turn.new.self c.args.woken.now.items ws in
    subst P (sym c.reserve.ensures.items) (reply_strange c.args.server c.args.proxy.now c.link_turn.new.self c.args.woken.now.items c.requires lost)
