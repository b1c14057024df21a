use Rattle.std.proofs.Common.{◌≡◌, ◌∙◌, true, false, refl, sym}
use Rattle.mc_request_reader.specs.Peeks.{get_of}
use Rattle.mc_route.specs.Routes.{route_of_taken}
use Rattle.mc_proxy.specs.SessionState.{states}
use Rattle.mc_proxy.specs.Sending.{is_marked}
use Rattle.mc_proxy.proofs.TurnLemmas.{at_error, held, unheld}
use Rattle.mc_proxy.specs.contracts.sessions.Session.{the_view}
use Rattle.mc_proxy.proofs.sessions.Session.turn.Goals as goal

-- a mark is reached
pub returns-then-must_wait-clause-turn : goal.returns-then-must_wait-clause-turn
returns-then-must_wait-clause-turn c =
    let seen = c.in-Get.ensures.seen in
    let own = the_view c.self.inside in
    let ring = c.args.ring.now in
    let links = states c.args.links.now in
    let what = get_of c.in-Get.get in
    let marked : is_marked own links (route_of_taken ring what) ≡ true = rw (← c.self.view_is) at (sym c.must_wait.ensures ∙ c.if-must_wait.true) in
    (rw (← c.self.view_is) (held ring links own what c.in-Get.get.front seen marked), (refl, refl))

-- no mark is reached if the request cannot be routed for lack of memory
pub returns-in_err-route-clause-cause : goal.returns-in_err-route-clause-cause
returns-in_err-route-clause-cause c =
    let seen = c.in-Get.ensures.seen in
    let own = the_view c.self.inside in
    let ring = c.args.ring.now in
    let links = states c.args.links.now in
    let what = get_of c.in-Get.get in
    let unmarked : is_marked own links (route_of_taken ring what) ≡ false = rw (← c.self.view_is) at (sym c.must_wait.ensures ∙ c.if-must_wait.false) in
    at_error c.from_residual.result (rw (← c.self.view_is) (unheld ring links own what c.in-Get.get.front seen unmarked))

-- no mark is reached if there is no memory for its commands
pub returns-in_err-take-clause-cause : goal.returns-in_err-take-clause-cause
returns-in_err-take-clause-cause c =
    let seen = c.in-Get.ensures.seen in
    let own = the_view c.self.inside in
    let ring = c.args.ring.now in
    let links = states c.args.links.now in
    let what = get_of c.in-Get.get in
    let unmarked : is_marked own links (route_of_taken ring what) ≡ false = rw (← c.self.view_is) at (sym c.must_wait.ensures ∙ c.if-must_wait.false) in
    at_error c.from_residual-in_err-take.result (rw (← c.self.view_is) (unheld ring links own what c.in-Get.get.front seen unmarked))
