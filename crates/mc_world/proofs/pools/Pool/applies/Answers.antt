use Rattle.std.proofs.Common.{rules, ◌<◌}
use Rattle.mc_world.proofs.pools.Pool.applies.Goals as goal

-- some bytes are asked for
pub returns-then-count-gt0 : goal.returns-then-count-gt0
returns-then-count-gt0 g c =
    let some : 0 < c.in-ToServer.count = search rules in
    rw c.in-ToServer.is (c.is_on_its_way.ensures c.in-ToServer.count some)
