use Rattle.mc_world.proofs.Drain.EndLemmas.{dies_then}
use Rattle.mc_world.proofs.worlds.World.end_proxy.Goals as goal

-- its clients go, and then its links are lost
pub returns-clause-dies : goal.returns-clause-dies
returns-clause-dies g c =
    dies_then c.args.proxy c.args.self.now.course c.lose_clients.new.self.course c.lose_links.new.self.course c.in_ok-lose_clients.ensures.dies c.in_ok-lose_clients.ensures.homes
    c.lose_links.ensures.dies
