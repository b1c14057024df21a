use Rattle.std.proofs.Common.{◌-◌, refl, sym, ap, ◌∙◌, arith}
use Rattle.mc_store.specs.Items.{body_at, without}
use Rattle.mc_store.specs.Epochs.{LiveAndDead, live}
use Rattle.mc_store.proofs.ItemLemmas.{without-absent}
use Rattle.mc_store.proofs.EpochLemmas.{takes, takes_dead, takes_none, same_room}
use Rattle.mc_store.proofs.epoch_cache.EpochCache.take.Goals as goal

pub invariant_of-self : goal.invariant_of-self
invariant_of-self g c =
    ((takes_dead c.args.key.now c.self.inside.epoch c.self.inside.count (g.M.Recent.entries c.self.inside.cache) (g.M.Recent.entries c.pop_entry.new.self) (c.in-Some.own, c.in-Some.held) c.self.invariant.0 (sym c.in-Some.ensures.value) c.pop_entry.ensures.entries c.if-held-self.true).0, same_room _ _ _ c.self.invariant.1 c.pop_entry.ensures.room)

pub returns-then-held-self-clause-none : goal.returns-then-held-self-clause-none
returns-then-held-self-clause-none g c =
    let gone = takes_dead c.args.key.now c.self.inside.epoch c.self.inside.count (g.M.Recent.entries c.self.inside.cache) (g.M.Recent.entries c.pop_entry.new.self) (c.in-Some.own, c.in-Some.held) c.self.invariant.0 (sym c.in-Some.ensures.value) c.pop_entry.ensures.entries c.if-held-self.true in
    sym (ap (λ (s : LiveAndDead). body_at c.args.key.now s.items) c.self.view_is) ∙ gone.2

pub returns-then-held-self-clause-items : goal.returns-then-held-self-clause-items
returns-then-held-self-clause-items g c =
    let gone = takes_dead c.args.key.now c.self.inside.epoch c.self.inside.count (g.M.Recent.entries c.self.inside.cache) (g.M.Recent.entries c.pop_entry.new.self) (c.in-Some.own, c.in-Some.held) c.self.invariant.0 (sym c.in-Some.ensures.value) c.pop_entry.ensures.entries c.if-held-self.true in
    gone.1 ∙ sym (without-absent c.args.key.now (live c.self.inside.count (g.M.Recent.entries c.self.inside.cache)) gone.2) ∙ ap (λ (s : LiveAndDead). without c.args.key.now s.items) c.self.view_is

pub overflow_sub-self : goal.overflow_sub-self
overflow_sub-self g c =
    let took = takes c.args.key.now c.self.inside.epoch c.self.inside.count (c.self.inside.count - 1) (g.M.Recent.entries c.self.inside.cache) (g.M.Recent.entries c.pop_entry.new.self) (c.in-Some.own, c.in-Some.held)
    c.self.invariant.0 (sym c.in-Some.ensures.value) c.pop_entry.ensures.entries c.if-held-self.false refl in
    let some = took.some in
    omega arith

pub invariant_of-self-in-Some : goal.invariant_of-self-in-Some
invariant_of-self-in-Some g c = (
  (takes c.args.key.now c.self.inside.epoch c.self.inside.count (c.self.inside.count - 1) (g.M.Recent.entries c.self.inside.cache) (g.M.Recent.entries c.pop_entry.new.self) (c.in-Some.own, c.in-Some.held)
      c.self.invariant.0 (sym c.in-Some.ensures.value) c.pop_entry.ensures.entries c.if-held-self.false refl).parted,
  same_room _ _ _ c.self.invariant.1 c.pop_entry.ensures.room,
)

pub returns-else-held-self-clause-item : goal.returns-else-held-self-clause-item
returns-else-held-self-clause-item g c =
    let took = takes c.args.key.now c.self.inside.epoch c.self.inside.count (c.self.inside.count - 1) (g.M.Recent.entries c.self.inside.cache) (g.M.Recent.entries c.pop_entry.new.self) (c.in-Some.own, c.in-Some.held)
    c.self.invariant.0 (sym c.in-Some.ensures.value) c.pop_entry.ensures.entries c.if-held-self.false refl in
    (took.own, sym (ap (λ (s : LiveAndDead). body_at c.args.key.now s.items) c.self.view_is) ∙ took.body)

pub returns-else-held-self-clause-items : goal.returns-else-held-self-clause-items
returns-else-held-self-clause-items g c =
    let took = takes c.args.key.now c.self.inside.epoch c.self.inside.count (c.self.inside.count - 1) (g.M.Recent.entries c.self.inside.cache) (g.M.Recent.entries c.pop_entry.new.self) (c.in-Some.own, c.in-Some.held)
    c.self.invariant.0 (sym c.in-Some.ensures.value) c.pop_entry.ensures.entries c.if-held-self.false refl in
    took.left ∙ ap (λ (s : LiveAndDead). without c.args.key.now s.items) c.self.view_is

pub invariant_of-self-in-None : goal.invariant_of-self-in-None
invariant_of-self-in-None g c =
    ((takes_none c.args.key.now c.self.inside.epoch c.self.inside.count (g.M.Recent.entries c.self.inside.cache) (g.M.Recent.entries c.pop_entry.new.self) c.self.invariant.0 (sym c.in-None.ensures.value) c.pop_entry.ensures.entries).0, same_room _ _ _ c.self.invariant.1 c.pop_entry.ensures.room)

pub returns-in-None-clause-none : goal.returns-in-None-clause-none
returns-in-None-clause-none g c =
    let gone = takes_none c.args.key.now c.self.inside.epoch c.self.inside.count (g.M.Recent.entries c.self.inside.cache) (g.M.Recent.entries c.pop_entry.new.self) c.self.invariant.0 (sym c.in-None.ensures.value) c.pop_entry.ensures.entries in
    sym (ap (λ (s : LiveAndDead). body_at c.args.key.now s.items) c.self.view_is) ∙ gone.2

pub returns-in-None-clause-items : goal.returns-in-None-clause-items
returns-in-None-clause-items g c =
    let gone = takes_none c.args.key.now c.self.inside.epoch c.self.inside.count (g.M.Recent.entries c.self.inside.cache) (g.M.Recent.entries c.pop_entry.new.self) c.self.invariant.0 (sym c.in-None.ensures.value) c.pop_entry.ensures.entries in
    gone.1 ∙ sym (without-absent c.args.key.now (live c.self.inside.count (g.M.Recent.entries c.self.inside.cache)) gone.2) ∙ ap (λ (s : LiveAndDead). without c.args.key.now s.items) c.self.view_is
