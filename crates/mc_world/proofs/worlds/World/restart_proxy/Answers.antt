use Rattle.mc_world.specs.Worlds.{cache_of}
use Rattle.mc_world.proofs.Drain.StandLemmas.{dying_stands}
use Rattle.mc_world.proofs.worlds.World.restart_proxy.Goals as goal

-- the events of a proxy that dies change neither
pub returns-clause-stands : goal.returns-clause-stands
returns-clause-stands g c =
    dying_stands c.args.self.now.opening (cache_of c.args.self.now) c.args.proxy c.args.self.now.course c.end_proxy.new.self.course c.holds.ensures c.end_proxy.ensures.dies
