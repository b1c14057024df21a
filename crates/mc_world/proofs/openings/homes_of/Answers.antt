use Rattle.std.proofs.Common.{◌∙◌, List, ℕ, ◌+◌, ◌++◌, drop, ap}
use Rattle.mc_world.specs.Worlds.{homes_from}
use Rattle.mc_world.proofs.Course.OpeningPartLemmas.{homes_all, homes_next}
use Rattle.mc_world.proofs.openings.homes_of.Goals as goal

-- the clients of one proxy more
pub loop-proxy-preserved : goal.loop-proxy-preserved
loop-proxy-preserved c =
    ap (λ (hs : List ℕ). hs ++ homes_from (c.loop-proxy.proxy + 1) (drop (c.loop-proxy.proxy + 1) c.args.clients.now)) c.in_ok-push_home.ensures.pushed
    ∙ homes_next c.loop-proxy.homes.items c.args.clients.now c.loop-proxy.proxy (homes_from 0 c.args.clients.now) c.loop-proxy-test.true c.loop-proxy.invariant

-- at the end there are no others
pub returns-clause-homes : goal.returns-clause-homes
returns-clause-homes c = homes_all c.loop-proxy.homes.items c.args.clients.now c.loop-proxy.proxy (homes_from 0 c.args.clients.now) c.loop-proxy-test.false c.loop-proxy.invariant
