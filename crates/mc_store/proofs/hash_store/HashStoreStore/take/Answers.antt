use Rattle.std.proofs.Common.{◌≡◌, List, ℕ, sym, ap, ◌∙◌, subst}
use Rattle.mc_item.specs.Costs.{cost_of}
use Rattle.mc_store.specs.Items.{Items}
use Rattle.mc_store.specs.Sums.{IsSumOf}
use Rattle.mc_store.proofs.ItemLemmas.{without-absent}
use Rattle.mc_store.proofs.SumLemmas.{held_fits, sum_taken}
use Rattle.mc_store.proofs.hash_store.HashStoreStore.take.Goals as goal

pub take_away-requires-clause-used : goal.take_away-requires-clause-used
take_away-requires-clause-used g c =
    let priced : c.cost.result ≡ cost_of c.args.key.now c.in_ok-item.item.1.value = c.cost.ensures ∙ ap (λ (k : List ℕ). cost_of k c.in_ok-item.item.1.value) c.in_ok-item.ensures.item.0 in
    rw priced (held_fits c.args.key.now c.self.inside.cache.items c.in_ok-item.item.1 c.self.inside.sums c.self.invariant c.in_ok-item.ensures.item.1).0

pub take_away-requires-clause-long : goal.take_away-requires-clause-long
take_away-requires-clause-long g c =
    rw c.len.ensures (held_fits c.args.key.now c.self.inside.cache.items c.in_ok-item.item.1 c.self.inside.sums c.self.invariant c.in_ok-item.ensures.item.1).1

pub invariant_of-self-2 : goal.invariant_of-self-2
invariant_of-self-2 g c =
    let priced : c.cost.result ≡ cost_of c.args.key.now c.in_ok-item.item.1.value = c.cost.ensures ∙ ap (λ (k : List ℕ). cost_of k c.in_ok-item.item.1.value) c.in_ok-item.ensures.item.0 in
    sum_taken c.args.key.now c.self.inside.cache.items c.take.new.self.items c.in_ok-item.item.1 c.self.inside.sums c.take_away.new.self c.cost.result c.len.result
    c.self.invariant c.in_ok-item.ensures.item.1 c.take.ensures.items priced c.len.ensures c.take_away.ensures

pub invariant_of-self : goal.invariant_of-self
invariant_of-self g c =
    subst (λ (is : Items). IsSumOf c.self.inside.sums is)
    (sym (c.take.ensures.items ∙ without-absent c.args.key.now c.self.inside.cache.items c.in_err-item.ensures.none)) c.self.invariant
