use Rattle.std.proofs.Common.{◌≡◌, ◌<◌, ◌∙◌, true, length, get_or, sym, ap}
use Rattle.mc_link.specs.LinkState.{LinkState, sent}
use Rattle.mc_proxy.specs.SessionState.{link_at, states, with_link}
use Rattle.mc_proxy.specs.Sending.{handed_to}
use Rattle.mc_proxy.proofs.SessionLinkLemmas.{handed_to_up, link_is_there, states_set}
use Rattle.mc_proxy.proofs.sending.hand_over.Goals as goal

-- the link that is up sends the command
pub returns-then-is_up_at-clause-handed : goal.returns-then-is_up_at-clause-handed
returns-then-is_up_at-clause-handed c =
    let links = c.args.links.now in
    let place = c.args.command.server in
    let own = c.index-links-command.result in
    let inside : place < length links = c.is_up_at.ensures.inside c.if-is_up_at.true in
    let up : (link_at (states links) place).up ≡ true = sym c.is_up_at.ensures.up ∙ c.if-is_up_at.true in
    let here = link_is_there links place own inside in
    let now : c.send.new.self.state ≡ sent c.args.command.atom c.args.tag (get_or links place own).state = rw c.unwrap.ensures at c.send.ensures.sent in
    let own_up : (get_or links place own).state.up ≡ true = sym (ap (λ (l : LinkState). l.up) here) ∙ up in
    let handed : c.send.new.self.state ≡ handed_to c.args.tag c.args.command.atom (link_at (states links) place) =
    now ∙ sym (handed_to_up c.args.tag c.args.command.atom (get_or links place own).state own_up) ∙ ap (handed_to c.args.tag c.args.command.atom) (sym here) in
    states_set links place c.send.new.self ∙ ap (λ (l : LinkState). with_link place l (states links)) handed
