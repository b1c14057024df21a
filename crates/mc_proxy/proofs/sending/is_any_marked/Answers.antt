use Rattle.std.proofs.Common.{◌≡◌, ◌∙◌, length, sym, arith}
use Rattle.std.proofs.lemmas.List.{length-map}
use Rattle.mc_request.specs.LinesSeen.{asked_of}
use Rattle.mc_route.specs.Routes.{route_of_taken}
use Rattle.mc_link.specs.LinkState.{RoomyLink}
use Rattle.mc_proxy.specs.SessionState.{states}
use Rattle.mc_proxy.proofs.TurnLemmas.{marked_at, none_before_next, none_marked}
use Rattle.mc_proxy.proofs.sending.is_any_marked.Goals as goal

-- a link that is needed has reached its mark
pub returns-then-is_marked_for : goal.returns-then-is_marked_for
returns-then-is_marked_for c =
    sym (marked_at (states c.args.links.now) c.loop-place.place (route_of_taken c.args.ring.now (asked_of c.args.asked.now))
    (sym c.is_marked_for.ensures ∙ c.if-is_marked_for.true))

-- this link is not needed, or has not reached its mark
pub loop-place-preserved : goal.loop-place-preserved
loop-place-preserved c =
    none_before_next (states c.args.links.now) (route_of_taken c.args.ring.now (asked_of c.args.asked.now)) c.loop-place.place c.loop-place.invariant
    (sym c.is_marked_for.ensures ∙ c.if-is_marked_for.false)

-- no link is needed and has reached its mark
pub returns : goal.returns
returns c =
    let links = c.args.links.now in
    let size : length (states links) ≡ length links = length-map links (λ (link : RoomyLink). link.state) in
    sym (none_marked (states links) (route_of_taken c.args.ring.now (asked_of c.args.asked.now))
    (λ p below. c.loop-place.invariant p (omega (arith, below, size, c.loop-place-test.false, c.loop-place.auto.place-end))))
