use Rattle.mc_request.specs.declared.parts.Atom.TheVariants.{Update}
use Rattle.mc_request.specs.declared.parts.Update.TheVariants.{FlushAll}
use Rattle.mc_route.proofs.RouteLemmas.{commands_alone, each_alone}
use Rattle.mc_route.proofs.laws.commands_are_those_of_one_server.Goals as goal

pub returns-clause-commands : goal.returns-clause-commands
returns-clause-commands c = commands_alone

pub returns-clause-flush : goal.returns-clause-flush
returns-clause-flush c = λ ring delay noreply. each_alone 0 ring.servers (Update (FlushAll delay))
