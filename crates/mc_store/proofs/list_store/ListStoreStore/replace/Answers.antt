use Rattle.std.proofs.Common.{◌≡◌, ◌<◌, ◌≤◌, true, length, is_some, arith, ap}
use Rattle.mc_item.specs.declared.bodies.Body.{Body}
use Rattle.mc_store.specs.Items.{body_at, item_cost, cost_sum}
use Rattle.mc_store.proofs.KeptLemmas.{cost_sum-first, cost_sum-front, length-front}
use Rattle.mc_store.proofs.list_store.ListStoreStore.replace.Goals as goal

pub overflow_sub-self : goal.overflow_sub-self
overflow_sub-self c =
    let held : is_some (body_at c.args.key.now c.self.inside.entries.items) ≡ true = cc in
    let some : 0 < length c.brought.new.entries.items =
    length-front c.args.key.now c.self.inside.entries.items c.brought.new.entries.items c.brought.ensures.items held in
    let first : item_cost c.index_mut.result.now ≤ cost_sum c.brought.new.entries.items =
    cost_sum-first c.brought.new.entries.items c.index_mut.result.now some c.index_mut.ensures.value in
    let had : length c.replace-before.result.value ≡ length c.index_mut.result.now.1.value =
    ap (λ (b : Body). length b.value) c.replace-before.ensures.value in
    omega (arith, cost_sum-front)
