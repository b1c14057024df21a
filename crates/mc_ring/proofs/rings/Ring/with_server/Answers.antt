use Rattle.mc_ring.proofs.RingLemmas.{ring_with, moves_with}
use Rattle.mc_ring.proofs.rings.Ring.with_server.Goals as goal

pub invariant_of-result : goal.invariant_of-result
invariant_of-result c =
    ring_with (record { servers = c.self.inside.servers.items; points = c.self.inside.points.items }) c.as_slice-held.result.now c.as_slice.result.now c.args.server c.in_ok-servers.servers.items c.in_ok-points.points.items
    c.self.invariant c.as_slice-held.ensures.value c.as_slice.ensures.value c.in_ok-check_more.ensures c.in_ok-servers.ensures.servers c.in_ok-points.ensures

pub returns-clause-moves : goal.returns-clause-moves
returns-clause-moves c =
    rw (← c.self.view_is)
    (moves_with (record { servers = c.self.inside.servers.items; points = c.self.inside.points.items }) c.as_slice-held.result.now c.as_slice.result.now c.args.server c.in_ok-servers.servers.items c.in_ok-points.points.items
    c.self.invariant c.as_slice-held.ensures.value c.as_slice.ensures.value c.in_ok-check_more.ensures c.in_ok-servers.ensures.servers c.in_ok-points.ensures)
