use Rattle.mc_ring.proofs.RingLemmas.{ring_of_servers}
use Rattle.mc_ring.proofs.rings.Ring.new.Goals as goal

pub invariant_of-result : goal.invariant_of-result
invariant_of-result c =
    rw c.in_ok-servers.ensures (ring_of_servers c.args.servers.now c.put_in_order.new.points.items c.in_ok-check.ensures.refused (rw c.in_ok-points.ensures at c.put_in_order.ensures))
