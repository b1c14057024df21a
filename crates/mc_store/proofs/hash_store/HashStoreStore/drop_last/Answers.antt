use Rattle.mc_store.proofs.SumLemmas.{last_fits, sum_last}
use Rattle.mc_store.proofs.hash_store.HashStoreStore.drop_last.Goals as goal

pub take_away-requires-clause-used : goal.take_away-requires-clause-used
take_away-requires-clause-used g c =
    rw c.cost.ensures (last_fits c.self.inside.cache.items c.drop_last.new.self.items c.in_ok-last.last c.self.inside.sums c.self.invariant c.in_ok-last.ensures.last).0

pub take_away-requires-clause-long : goal.take_away-requires-clause-long
take_away-requires-clause-long g c =
    rw c.len.ensures (last_fits c.self.inside.cache.items c.drop_last.new.self.items c.in_ok-last.last c.self.inside.sums c.self.invariant c.in_ok-last.ensures.last).1

pub invariant_of-self-2 : goal.invariant_of-self-2
invariant_of-self-2 g c =
    sum_last c.self.inside.cache.items c.drop_last.new.self.items c.in_ok-last.last c.self.inside.sums c.take_away.new.self c.cost.result c.len.result
    c.self.invariant c.in_ok-last.ensures.last c.cost.ensures c.len.ensures c.take_away.ensures
