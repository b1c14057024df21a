use Rattle.mc_route.proofs.RouteLemmas.{route_inside}
use Rattle.mc_route.proofs.laws.routes_stay_inside.Goals as goal

pub returns : goal.returns
returns c = route_inside
