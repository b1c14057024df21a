use Rattle.std.proofs.Common.{to_z, of_z, w64, ◌<◌, append_assoc, length, arith, ap}
use Rattle.mc_request.specs.declared.parts.Atom.TheVariants.{Update}
use Rattle.mc_request.specs.declared.parts.Update.TheVariants.{FlushAll}
use Rattle.mc_route.proofs.RouteLemmas.{each_next}
use Rattle.mc_route.proofs.routes.push_flush.Goals as goal

-- one server more
pub loop-server-preserved : goal.loop-server-preserved
loop-server-preserved c =
    let servers = c.args.ring.now.servers in
    let n = c.loop-server.server in
    let inside : n < length servers = grind (arith, c.loop-server-test.true, c.servers-server-end.ensures.servers) in
    let next = each_next servers n (Update (FlushAll (to_z w64 (of_z w64 c.args.delay)))) inside in
    let room = ap length next in
    record {
      items = rw (c.push.ensures.items, append_assoc, ← next) c.loop-server.invariant.items;
      room = omega (arith, room, c.push.ensures.len, c.push.ensures.room, c.loop-server.invariant.room);
    }
