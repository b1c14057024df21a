use Rattle.mc_store.proofs.KeptLemmas.{cost_sum-taken}
use Rattle.mc_store.proofs.list_store.taken_out.Goals as goal

pub returns-clause-cost : goal.returns-clause-cost
returns-clause-cost c =
    cost_sum-taken _ _ _ _ (rw (← c.as_slice.ensures.value) c.in_ok-place.ensures.found.0) c.remove.ensures.value c.remove.ensures.items
