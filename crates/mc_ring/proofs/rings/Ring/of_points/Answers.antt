use Rattle.std.proofs.Common.{Err, ap, sym, ◌∙◌}
use Rattle.std.proofs.lemmas.Result.{err_from_is_err_and}
use Rattle.mc_ring.proofs.RingLemmas.{servers_first, ring_of_pairs}
use Rattle.mc_ring.proofs.rings.Ring.of_points.Goals as goal

pub returns-in_err-check-clause-refused : goal.returns-in_err-check-clause-refused
returns-in_err-check-clause-refused c =
    let p = err_from_is_err_and c.from_residual.result c.from_residual.ensures.1 in
    rw (p.1, p.2) (servers_first _ c.args.servers.now c.args.points.now (sym c.is_empty.ensures ∙ c.if-is_empty.false) c.in_err-check.ensures.refused (λ h. c.in_err-check.ensures.never_memory (ap Err h)))

pub invariant_of-result : goal.invariant_of-result
invariant_of-result c =
    rw c.in_ok-servers.ensures
    (ring_of_pairs c.args.servers.now c.args.points.now c.put_in_order.new.points.items (sym c.is_empty.ensures ∙ c.if-is_empty.false) c.in_ok-check.ensures.refused c.in_ok-check_places.ensures
    (rw c.in_ok-points.ensures.items at c.put_in_order.ensures))
