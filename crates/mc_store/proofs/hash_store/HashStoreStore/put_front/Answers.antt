use Rattle.std.proofs.Common.{ap, arith}
use Rattle.mc_store.specs.Items.{LimitedItems}
use Rattle.mc_store.proofs.SumLemmas.{long_least, sum_put}
use Rattle.mc_store.proofs.hash_store.HashStoreStore.put_front.Goals as goal

pub add-requires-clause-long : goal.add-requires-clause-long
add-requires-clause-long g c =
    omega (arith, c.self.invariant.used, c.self.invariant.fits, c.self.invariant.long, long_least c.self.inside.cache.items)

pub invariant_of-self-2 : goal.invariant_of-self-2
invariant_of-self-2 g c =
    sum_put c.args.key c.args.body c.self.inside.cache.items c.put_front.new.self.items c.self.inside.sums c.add.new.self c.cost-price.result c.len-length.result
    c.self.invariant (rw (ap (λ (s : LimitedItems). s.items) c.self.view_is) c.requires.cost) c.in_ok-put_front.ensures.ok c.cost-price.ensures c.len-length.ensures c.add.ensures
