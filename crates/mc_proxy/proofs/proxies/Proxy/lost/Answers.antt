use Rattle.std.proofs.Common.{◌≡◌, length, refl, sym, ap, ◌∙◌, arith}
use Rattle.mc_link.specs.LinkState.{LinkState}
use Rattle.mc_proxy.specs.SessionState.{states, with_link}
use Rattle.mc_proxy.proofs.LinkLemmas.{read_at, states-set, states-set_same, at_error}
use Rattle.mc_proxy.proofs.NotingLemmas.{all_lost-none, same_proxy}
use Rattle.mc_proxy.proofs.proxies.Proxy.lost.Goals as goal

-- the link that refused is as it was
pub returns-in_err-lost-clause-err : goal.returns-in_err-lost-clause-err
returns-in_err-lost-clause-err c =
    at_error c.from_residual.result (rw (← c.self.view_is, states-set_same c.self.inside.links.items c.args.server c.in-Some.link.now c.lose.new.self c.in-Some.ensures.value c.in_err-lost.ensures.err) refl)

-- one command fewer is left to lose, and that one is recorded
pub loop-tag-preserved : goal.loop-tag-preserved
loop-tag-preserved c = record {
  sessions = rw c.note.ensures (rw c.in-Some-2.ensures.steps.0 at c.loop-tag.invariant.sessions);
  losses = rw c.note.ensures c.loop-tag.invariant.losses;
  ring = rw c.note.ensures c.loop-tag.invariant.ring;
  admitted = rw c.note.ensures c.loop-tag.invariant.admitted;
  links = rw c.note.ensures c.loop-tag.invariant.links;
}

-- the link returns its output
pub returns-clause-bytes : goal.returns-clause-bytes
returns-clause-bytes c =
    let here = read_at c.self.inside.links.items c.args.server c.in-Some.link.now c.in-Some.ensures.item.3.0 c.in-Some.ensures.value in
    rw (← c.self.view_is, here) c.in_ok-lost.ensures.bytes

-- each pending command is lost
pub returns-clause-lost : goal.returns-clause-lost
returns-clause-lost c =
    let links = c.self.inside.links.items in
    let here = read_at links c.args.server c.in-Some.link.now c.in-Some.ensures.item.3.0 c.in-Some.ensures.value in
    let left = c.loop-tag.tag-iterator.rest in
    let none : length left.items ≡ 0 = omega (arith, c.in-None.ensures.steps.0, left.ok) in
    let all = rw (c.into_iter-tag-iterator.ensures.into_iter_gives.0, c.in_ok-lost.ensures.waiting) at c.loop-tag.invariant.sessions in
    rw (← c.self.view_is, here) (same_proxy _ _
    c.loop-tag.invariant.losses
    c.loop-tag.invariant.ring
    (sym (all_lost-none left.items c.loop-tag.self.sessions none) ∙ all)
    c.loop-tag.invariant.admitted
    (c.loop-tag.invariant.links ∙ states-set links c.args.server c.lose.new.self ∙ ap (λ (link : LinkState). with_link c.args.server link (states links)) c.in_ok-lost.ensures.down))
