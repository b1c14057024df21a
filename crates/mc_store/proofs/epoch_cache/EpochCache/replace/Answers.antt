use Rattle.std.proofs.Common.{◌≡◌, ℕ, ◌∷◌, Some, length, drop, subst, sym, ap, ◌∙◌}
use Rattle.mc_item.specs.declared.bodies.Body.{Body}
use Rattle.mc_store.specs.declared.epoch_entries.EpochEntry.{EpochEntry}
use Rattle.mc_store.specs.Items.{Items, body_at, without}
use Rattle.mc_store.specs.Epochs.{IsLetGo, LiveAndDead, Entries, live}
use Rattle.mc_store.proofs.EpochLemmas.{count-fits, looks_none, lets_go, writes, replaces, same_room}
use Rattle.mc_store.proofs.epoch_cache.EpochCache.replace.Goals as goal

pub returns-in_default-clause-absent : goal.returns-in_default-clause-absent
returns-in_default-clause-absent g c =
    let shown : live c.self.inside.count (g.M.Recent.entries c.self.inside.cache) ≡ c.args.self.now.items = ap (λ (s : LiveAndDead). s.items) c.self.view_is in
    sym (ap (λ (is : Items). body_at c.args.key.now is) shown) ∙ looks_none c.args.key.now c.self.inside.count (g.M.Recent.entries c.self.inside.cache) (sym c.in_default.ensures.value)

pub invariant_of-self-then-held-self : goal.invariant_of-self-then-held-self
invariant_of-self-then-held-self g c =
    let gone = lets_go c.args.key.now c.self.inside.epoch c.self.inside.count (g.M.Recent.entries c.self.inside.cache) (g.M.Recent.entries (g.M.Recent.lent c.self.inside.cache c.args.key.now c.in-Some.held.now)) (g.M.Recent.entries c.pop_mru.new.self) c.in-Some.held.now
    c.self.invariant.0 c.in-Some.ensures.value c.if-held-self.true (g.met.M.Recent.lent_entries c.self.inside.cache c.args.key.now c.in-Some.held.now) c.pop_mru.ensures.entries in
    (gone.0, same_room _ _ _ c.self.invariant.1 (c.pop_mru.ensures.room ∙ g.met.M.Recent.lent_room c.self.inside.cache c.args.key.now c.in-Some.held.now))

pub returns-then-held-self-clause-absent : goal.returns-then-held-self-clause-absent
returns-then-held-self-clause-absent g c =
    let gone = lets_go c.args.key.now c.self.inside.epoch c.self.inside.count (g.M.Recent.entries c.self.inside.cache) (g.M.Recent.entries (g.M.Recent.lent c.self.inside.cache c.args.key.now c.in-Some.held.now)) (g.M.Recent.entries c.pop_mru.new.self) c.in-Some.held.now
    c.self.invariant.0 c.in-Some.ensures.value c.if-held-self.true (g.met.M.Recent.lent_entries c.self.inside.cache c.args.key.now c.in-Some.held.now) c.pop_mru.ensures.entries in
    let shown : live c.self.inside.count (g.M.Recent.entries c.self.inside.cache) ≡ c.args.self.now.items = ap (λ (s : LiveAndDead). s.items) c.self.view_is in
    sym (ap (λ (is : Items). body_at c.args.key.now is) shown) ∙ gone.2

pub returns-then-held-self-clause-err : goal.returns-then-held-self-clause-err
returns-then-held-self-clause-err g c =
    let gone = lets_go c.args.key.now c.self.inside.epoch c.self.inside.count (g.M.Recent.entries c.self.inside.cache) (g.M.Recent.entries (g.M.Recent.lent c.self.inside.cache c.args.key.now c.in-Some.held.now)) (g.M.Recent.entries c.pop_mru.new.self) c.in-Some.held.now
    c.self.invariant.0 c.in-Some.ensures.value c.if-held-self.true (g.met.M.Recent.lent_entries c.self.inside.cache c.args.key.now c.in-Some.held.now) c.pop_mru.ensures.entries in
    gone.1 ∙ ap (λ (s : LiveAndDead). s.items) c.self.view_is

pub let_go-requires : goal.let_go-requires
let_go-requires g c =
    let after : EpochEntry = record { body = c.replace-before.new.dest; epoch = c.in-Some.held.now.epoch } in
    let wrote = writes c.args.key.now c.self.inside.epoch c.self.inside.count (g.M.Recent.entries c.self.inside.cache) (g.M.Recent.entries (g.M.Recent.lent c.self.inside.cache c.args.key.now after)) c.in-Some.held.now after
    c.self.invariant.0 c.in-Some.ensures.value c.if-held-self.false c.if-held-self.false (g.met.M.Recent.lent_entries c.self.inside.cache c.args.key.now after) in
    count-fits c.self.inside.epoch c.self.inside.count (g.M.Recent.entries (g.M.Recent.lent c.self.inside.cache c.args.key.now after)) wrote.parted

pub invariant_of-self-2 : goal.invariant_of-self-2
invariant_of-self-2 g c =
    let after : EpochEntry = record { body = c.replace-before.new.dest; epoch = c.in-Some.held.now.epoch } in
    let new = replaces c.args.key.now c.self.inside.epoch c.self.inside.count c.len-price.result (g.M.Recent.entries c.self.inside.cache) (g.M.Recent.entries (g.M.Recent.lent c.self.inside.cache c.args.key.now after)) (g.M.Recent.entries c.let_go.new.cache) c.in-Some.held.now after
    c.self.invariant.0 c.in-Some.ensures.value c.if-held-self.false c.if-held-self.false (g.met.M.Recent.lent_entries c.self.inside.cache c.args.key.now after) c.let_go.ensures.go in
    (new.parted, same_room _ _ _ c.self.invariant.1 (c.let_go.ensures.room ∙ g.met.M.Recent.lent_room c.self.inside.cache c.args.key.now after))

pub returns-clause-before : goal.returns-clause-before
returns-clause-before g c =
    let after : EpochEntry = record { body = c.replace-before.new.dest; epoch = c.in-Some.held.now.epoch } in
    let new = replaces c.args.key.now c.self.inside.epoch c.self.inside.count c.len-price.result (g.M.Recent.entries c.self.inside.cache) (g.M.Recent.entries (g.M.Recent.lent c.self.inside.cache c.args.key.now after)) (g.M.Recent.entries c.let_go.new.cache) c.in-Some.held.now after
    c.self.invariant.0 c.in-Some.ensures.value c.if-held-self.false c.if-held-self.false (g.met.M.Recent.lent_entries c.self.inside.cache c.args.key.now after) c.let_go.ensures.go in
    let shown : live c.self.inside.count (g.M.Recent.entries c.self.inside.cache) ≡ c.args.self.now.items = ap (λ (s : LiveAndDead). s.items) c.self.view_is in
    sym (ap (λ (is : Items). body_at c.args.key.now is) shown) ∙ new.held ∙ ap (λ (b : Body). Some b) (sym c.replace-before.ensures.value)

pub returns-clause-ok : goal.returns-clause-ok
returns-clause-ok g c =
    let after : EpochEntry = record { body = c.replace-before.new.dest; epoch = c.in-Some.held.now.epoch } in
    let new = replaces c.args.key.now c.self.inside.epoch c.self.inside.count c.len-price.result (g.M.Recent.entries c.self.inside.cache) (g.M.Recent.entries (g.M.Recent.lent c.self.inside.cache c.args.key.now after)) (g.M.Recent.entries c.let_go.new.cache) c.in-Some.held.now after
    c.self.invariant.0 c.in-Some.ensures.value c.if-held-self.false c.if-held-self.false (g.met.M.Recent.lent_entries c.self.inside.cache c.args.key.now after) c.let_go.ensures.go in
    let shown : live c.self.inside.count (g.M.Recent.entries c.self.inside.cache) ≡ c.args.self.now.items = ap (λ (s : LiveAndDead). s.items) c.self.view_is in
    new.items ∙ ap (λ (b : Body). (c.args.key.now, b) ∷ without c.args.key.now (live c.self.inside.count (g.M.Recent.entries c.self.inside.cache))) c.replace-before.ensures.after
    ∙ ap (λ (is : Items). (c.args.key.now, c.args.body) ∷ without c.args.key.now is) shown

pub returns-clause-dead : goal.returns-clause-dead
returns-clause-dead g c =
    let after : EpochEntry = record { body = c.replace-before.new.dest; epoch = c.in-Some.held.now.epoch } in
    let new = replaces c.args.key.now c.self.inside.epoch c.self.inside.count c.len-price.result (g.M.Recent.entries c.self.inside.cache) (g.M.Recent.entries (g.M.Recent.lent c.self.inside.cache c.args.key.now after)) (g.M.Recent.entries c.let_go.new.cache) c.in-Some.held.now after
    c.self.invariant.0 c.in-Some.ensures.value c.if-held-self.false c.if-held-self.false (g.met.M.Recent.lent_entries c.self.inside.cache c.args.key.now after) c.let_go.ensures.go in
    subst (λ (es : Entries). IsLetGo (length c.args.body.value) 0 es (drop c.self.inside.count (g.M.Recent.entries c.let_go.new.cache))) (ap (λ (s : LiveAndDead). s.dead) c.self.view_is)
    (subst (λ (p : ℕ). IsLetGo p 0 (drop c.self.inside.count (g.M.Recent.entries c.self.inside.cache)) (drop c.self.inside.count (g.M.Recent.entries c.let_go.new.cache))) c.len-price.ensures new.dead)
