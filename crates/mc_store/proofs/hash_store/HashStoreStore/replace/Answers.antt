use Rattle.std.proofs.Common.{ap, ◌<◌, ◌+◌, ◌^◌, arith}
use Rattle.mc_item.specs.Costs.{cost_of}
use Rattle.mc_store.specs.Items.{LimitedItems, cost_sum}
use Rattle.mc_store.proofs.SumLemmas.{held_fits, replaced_fits, sum_replaced}
use Rattle.mc_store.proofs.hash_store.HashStoreStore.replace.Goals as goal

pub take_away-requires-clause-used : goal.take_away-requires-clause-used
take_away-requires-clause-used g c =
    omega (arith, (held_fits c.args.key.now c.self.inside.cache.items c.in-Ok.before c.self.inside.sums c.self.invariant c.in-Ok.ensures.before).0, c.len-shorter.ensures)

pub take_away-requires-clause-long : goal.take_away-requires-clause-long
take_away-requires-clause-long g c =
    rw c.len-shorter.ensures (held_fits c.args.key.now c.self.inside.cache.items c.in-Ok.before c.self.inside.sums c.self.invariant c.in-Ok.ensures.before).1

pub add-requires-clause-long : goal.add-requires-clause-long
add-requires-clause-long g c =
    let fits : cost_sum c.self.inside.cache.items + cost_of c.args.key.now c.args.body.value < 2 ^ 63 = rw (ap (λ (s : LimitedItems). s.items) c.self.view_is) c.requires in
    (replaced_fits c.args.key.now c.in-Ok.before c.args.body c.self.inside.cache.items c.self.inside.sums c.take_away.new.self c.len-shorter.result c.len-length.result
    c.self.invariant c.in-Ok.ensures.before fits c.len-shorter.ensures c.len-length.ensures c.take_away.ensures).1

pub invariant_of-self : goal.invariant_of-self
invariant_of-self g c =
    let fits : cost_sum c.self.inside.cache.items + cost_of c.args.key.now c.args.body.value < 2 ^ 63 = rw (ap (λ (s : LimitedItems). s.items) c.self.view_is) c.requires in
    sum_replaced c.args.key.now c.in-Ok.before c.args.body c.self.inside.cache.items c.replace.new.self.items c.self.inside.sums c.take_away.new.self c.add.new.self
    c.len-shorter.result c.len-length.result
    c.self.invariant c.in-Ok.ensures.before fits c.in-Ok.ensures.ok c.len-shorter.ensures c.len-length.ensures c.take_away.ensures c.add.ensures
