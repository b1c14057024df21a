use Rattle.mc_route.proofs.RouteLemmas.{route_to_first}
use Rattle.mc_route.proofs.laws.one_server_answers_alike.Goals as goal

pub returns : goal.returns
returns c = route_to_first
