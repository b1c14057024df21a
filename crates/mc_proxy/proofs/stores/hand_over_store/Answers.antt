use Rattle.std.proofs.Common.{◌≡◌, ◌<◌, ◌∙◌, true, length, get_or, sym, ap}
use Rattle.mc_link.specs.LinkState.{LinkState, sent}
use Rattle.mc_codec.specs.LentStores.{atom_of}
use Rattle.mc_proxy.specs.SessionState.{link_at, states, with_link}
use Rattle.mc_proxy.specs.Sending.{handed_to}
use Rattle.mc_proxy.proofs.SessionLinkLemmas.{handed_to_up, link_is_there, states_set}
use Rattle.mc_proxy.proofs.stores.hand_over_store.Goals as goal

-- the link that is up sends the command
pub returns-then-is_up_at : goal.returns-then-is_up_at
returns-then-is_up_at c =
    let links = c.args.links.now in
    let place = c.args.place in
    let own = c.index-links-place.result in
    let atom = atom_of c.args.store in
    let inside : place < length links = c.is_up_at.ensures.inside c.if-is_up_at.true in
    let up : (link_at (states links) place).up ≡ true = sym c.is_up_at.ensures.up ∙ c.if-is_up_at.true in
    let here = link_is_there links place own inside in
    let now : c.send_store.new.self.state ≡ sent atom c.args.tag (get_or links place own).state = rw c.unwrap.ensures at c.send_store.ensures.sent in
    let own_up : (get_or links place own).state.up ≡ true = sym (ap (λ (l : LinkState). l.up) here) ∙ up in
    let handed : c.send_store.new.self.state ≡ handed_to c.args.tag atom (link_at (states links) place) =
    now ∙ sym (handed_to_up c.args.tag atom (get_or links place own).state own_up) ∙ ap (handed_to c.args.tag atom) (sym here) in
    states_set links place c.send_store.new.self ∙ ap (λ (l : LinkState). with_link place l (states links)) handed
