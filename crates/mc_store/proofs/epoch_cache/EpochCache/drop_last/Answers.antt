use Rattle.std.proofs.Common.{◌-◌, refl, sym, ap, ◌∙◌}
use Rattle.mc_store.specs.Epochs.{LiveAndDead}
use Rattle.mc_store.proofs.EpochLemmas.{count-fits, leaves_all, pops, pops_none, same_room}
use Rattle.mc_store.proofs.epoch_cache.EpochCache.drop_last.Goals as goal

pub let_all_go-requires : goal.let_all_go-requires
let_all_go-requires g c = count-fits c.self.inside.epoch c.self.inside.count (g.M.Recent.entries c.self.inside.cache) c.self.invariant.0

pub invariant_of-self : goal.invariant_of-self
invariant_of-self g c =
    let left = leaves_all c.self.inside.epoch c.self.inside.count (g.M.Recent.entries c.self.inside.cache) (g.M.Recent.entries c.let_all_go.new.cache) c.self.invariant.0 c.let_all_go.ensures.entries in
    let popped = pops c.self.inside.epoch c.self.inside.count (c.self.inside.count - 1) (g.M.Recent.entries c.let_all_go.new.cache) (g.M.Recent.entries c.pop_lru.new.self) (c.in-Some.key, c.in-Some.held)
    left.0 left.2 c.in-Some.ensures.last refl in
    (popped.parted, same_room _ _ _ c.self.invariant.1 (c.pop_lru.ensures.room ∙ c.let_all_go.ensures.room))

pub returns-in-Some-clause-last : goal.returns-in-Some-clause-last
returns-in-Some-clause-last g c =
    let left = leaves_all c.self.inside.epoch c.self.inside.count (g.M.Recent.entries c.self.inside.cache) (g.M.Recent.entries c.let_all_go.new.cache) c.self.invariant.0 c.let_all_go.ensures.entries in
    let popped = pops c.self.inside.epoch c.self.inside.count (c.self.inside.count - 1) (g.M.Recent.entries c.let_all_go.new.cache) (g.M.Recent.entries c.pop_lru.new.self) (c.in-Some.key, c.in-Some.held)
    left.0 left.2 c.in-Some.ensures.last refl in
    sym (ap (λ (s : LiveAndDead). s.items) c.self.view_is) ∙ sym left.1 ∙ popped.ends

pub invariant_of-self-in-None : goal.invariant_of-self-in-None
invariant_of-self-in-None g c =
    let left = leaves_all c.self.inside.epoch c.self.inside.count (g.M.Recent.entries c.self.inside.cache) (g.M.Recent.entries c.let_all_go.new.cache) c.self.invariant.0 c.let_all_go.ensures.entries in
    let none = pops_none c.self.inside.epoch c.self.inside.count (g.M.Recent.entries c.let_all_go.new.cache) (g.M.Recent.entries c.pop_lru.new.self) left.0 c.in-None.ensures.empty.0 c.in-None.ensures.empty.1 in
    (none.0, same_room _ _ _ c.self.invariant.1 (c.pop_lru.ensures.room ∙ c.let_all_go.ensures.room))

pub returns-in-None-clause-empty : goal.returns-in-None-clause-empty
returns-in-None-clause-empty g c =
    let left = leaves_all c.self.inside.epoch c.self.inside.count (g.M.Recent.entries c.self.inside.cache) (g.M.Recent.entries c.let_all_go.new.cache) c.self.invariant.0 c.let_all_go.ensures.entries in
    let none = pops_none c.self.inside.epoch c.self.inside.count (g.M.Recent.entries c.let_all_go.new.cache) (g.M.Recent.entries c.pop_lru.new.self) left.0 c.in-None.ensures.empty.0 c.in-None.ensures.empty.1 in
    (sym (ap (λ (s : LiveAndDead). s.items) c.self.view_is) ∙ sym left.1 ∙ none.2, none.1)
