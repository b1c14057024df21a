use Rattle.std.proofs.Common.{refl, sym, ◌∙◌}
use Rattle.mc_store.specs.declared.epoch_entries.EpochEntry.{EpochEntry}
use Rattle.mc_store.proofs.EpochLemmas.{looks_none, lets_go, writes, same_room}
use Rattle.mc_store.proofs.epoch_cache.EpochCache.mark.Goals as goal

pub returns-in_default-clause-held : goal.returns-in_default-clause-held
returns-in_default-clause-held g c =
    rw (← c.self.view_is, looks_none c.args.key.now c.self.inside.count (g.M.Recent.entries c.self.inside.cache) (sym c.in_default.ensures.value)) refl

pub returns-in_default-clause-items : goal.returns-in_default-clause-items
returns-in_default-clause-items g c =
    rw (← c.self.view_is, looks_none c.args.key.now c.self.inside.count (g.M.Recent.entries c.self.inside.cache) (sym c.in_default.ensures.value)) refl

pub invariant_of-self-then-held-self : goal.invariant_of-self-then-held-self
invariant_of-self-then-held-self g c =
    let gone = lets_go c.args.key.now c.self.inside.epoch c.self.inside.count (g.M.Recent.entries c.self.inside.cache) (g.M.Recent.entries (g.M.Recent.lent c.self.inside.cache c.args.key.now c.in-Some.held.now)) (g.M.Recent.entries c.pop_mru.new.self) c.in-Some.held.now
    c.self.invariant.0 c.in-Some.ensures.value c.if-held-self.true (g.met.M.Recent.lent_entries c.self.inside.cache c.args.key.now c.in-Some.held.now) c.pop_mru.ensures.entries in
    (gone.0, same_room _ _ _ c.self.invariant.1 (c.pop_mru.ensures.room ∙ g.met.M.Recent.lent_room c.self.inside.cache c.args.key.now c.in-Some.held.now))

pub returns-then-held-self-clause-held : goal.returns-then-held-self-clause-held
returns-then-held-self-clause-held g c =
    let gone = lets_go c.args.key.now c.self.inside.epoch c.self.inside.count (g.M.Recent.entries c.self.inside.cache) (g.M.Recent.entries (g.M.Recent.lent c.self.inside.cache c.args.key.now c.in-Some.held.now)) (g.M.Recent.entries c.pop_mru.new.self) c.in-Some.held.now
    c.self.invariant.0 c.in-Some.ensures.value c.if-held-self.true (g.met.M.Recent.lent_entries c.self.inside.cache c.args.key.now c.in-Some.held.now) c.pop_mru.ensures.entries in
    rw (← c.self.view_is, gone.2) refl

pub returns-then-held-self-clause-items : goal.returns-then-held-self-clause-items
returns-then-held-self-clause-items g c =
    let gone = lets_go c.args.key.now c.self.inside.epoch c.self.inside.count (g.M.Recent.entries c.self.inside.cache) (g.M.Recent.entries (g.M.Recent.lent c.self.inside.cache c.args.key.now c.in-Some.held.now)) (g.M.Recent.entries c.pop_mru.new.self) c.in-Some.held.now
    c.self.invariant.0 c.in-Some.ensures.value c.if-held-self.true (g.met.M.Recent.lent_entries c.self.inside.cache c.args.key.now c.in-Some.held.now) c.pop_mru.ensures.entries in
    rw (← c.self.view_is, gone.2) gone.1

pub invariant_of-self-2 : goal.invariant_of-self-2
invariant_of-self-2 g c =
    let after : EpochEntry = record { body = record c.in-Some.held.now.body { cas = c.args.cas; stale = c.args.stale; won = c.args.won }; epoch = c.in-Some.held.now.epoch } in
    let wrote = writes c.args.key.now c.self.inside.epoch c.self.inside.count (g.M.Recent.entries c.self.inside.cache) (g.M.Recent.entries (g.M.Recent.lent c.self.inside.cache c.args.key.now after)) c.in-Some.held.now after
    c.self.invariant.0 c.in-Some.ensures.value c.if-held-self.false c.if-held-self.false (g.met.M.Recent.lent_entries c.self.inside.cache c.args.key.now after) in
    (wrote.parted, same_room _ _ _ c.self.invariant.1 (g.met.M.Recent.lent_room c.self.inside.cache c.args.key.now after))

pub returns-clause-held : goal.returns-clause-held
returns-clause-held g c =
    let after : EpochEntry = record { body = record c.in-Some.held.now.body { cas = c.args.cas; stale = c.args.stale; won = c.args.won }; epoch = c.in-Some.held.now.epoch } in
    let wrote = writes c.args.key.now c.self.inside.epoch c.self.inside.count (g.M.Recent.entries c.self.inside.cache) (g.M.Recent.entries (g.M.Recent.lent c.self.inside.cache c.args.key.now after)) c.in-Some.held.now after
    c.self.invariant.0 c.in-Some.ensures.value c.if-held-self.false c.if-held-self.false (g.met.M.Recent.lent_entries c.self.inside.cache c.args.key.now after) in
    rw (← c.self.view_is, wrote.held) refl

pub returns-clause-items : goal.returns-clause-items
returns-clause-items g c =
    let after : EpochEntry = record { body = record c.in-Some.held.now.body { cas = c.args.cas; stale = c.args.stale; won = c.args.won }; epoch = c.in-Some.held.now.epoch } in
    let wrote = writes c.args.key.now c.self.inside.epoch c.self.inside.count (g.M.Recent.entries c.self.inside.cache) (g.M.Recent.entries (g.M.Recent.lent c.self.inside.cache c.args.key.now after)) c.in-Some.held.now after
    c.self.invariant.0 c.in-Some.ensures.value c.if-held-self.false c.if-held-self.false (g.met.M.Recent.lent_entries c.self.inside.cache c.args.key.now after) in
    rw (← c.self.view_is, wrote.held) wrote.items
