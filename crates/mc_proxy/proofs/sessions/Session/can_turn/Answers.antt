use Rattle.std.proofs.Common.{◌≡◌, ◌∙◌, false, sym}
use Rattle.mc_request.specs.LinesSeen.{asked_of}
use Rattle.mc_proxy.specs.SessionState.{states}
use Rattle.mc_proxy.specs.Sending.{is_session_marked}
use Rattle.mc_proxy.proofs.TurnLemmas.{ready_if}
use Rattle.mc_proxy.specs.contracts.sessions.Session.{the_view}
use Rattle.mc_proxy.proofs.sessions.Session.can_turn.Goals as goal

-- the request that is shown is ready if no link that it needs has reached its mark
pub returns-then-not-is_marked : goal.returns-then-not-is_marked
returns-then-not-is_marked c =
    let seen = rw c.in-First.is at c.peek.ensures.seen in
    let own = the_view c.self.inside in
    let unmarked : is_session_marked own ≡ false = rw (← c.self.view_is) at (sym c.is_marked.ensures ∙ c.if-not-is_marked.true) in
    rw (← c.self.view_is) (ready_if c.args.ring.now (states c.args.links.now) own (asked_of c.in-First.asked) c.in-First.field-1 seen false c.is_any_marked.result (sym unmarked) c.is_any_marked.ensures)
