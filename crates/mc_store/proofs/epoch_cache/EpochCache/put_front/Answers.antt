use Rattle.std.proofs.Common.{◌≡◌, ℕ, ◌+◌, ◌∷◌, None, length, drop, refl, sym, ap, ◌∙◌, subst, arith}
use Rattle.mc_store.specs.declared.epoch_entries.EpochEntry.{EpochEntry}
use Rattle.mc_item.specs.Costs.{cost_of}
use Rattle.mc_store.specs.Items.{body_at}
use Rattle.mc_store.specs.Epochs.{IsLetGo, IsGivenBack, LiveAndDead, Entries, live, IsParted}
use Rattle.mc_store.proofs.DeadLemmas.{dead_let_go}
use Rattle.mc_store.proofs.EpochLemmas.{count-fits, length-live, leaves, puts, same_room, room_after}
use Rattle.mc_store.proofs.epoch_cache.EpochCache.put_front.Goals as goal

pub let_go-requires : goal.let_go-requires
let_go-requires g c = count-fits c.self.inside.epoch c.self.inside.count (g.M.Recent.entries c.self.inside.cache) c.self.invariant.0

pub put-requires : goal.put-requires
put-requires g c =
    let many : length c.args.self.now.items ≡ c.self.inside.count = ap (λ (s : LiveAndDead). length s.items) (sym c.self.view_is) ∙ length-live c.self.inside.epoch c.self.inside.count (g.M.Recent.entries c.self.inside.cache) c.self.invariant.0 in
    let most : c.self.inside.most ≡ c.args.self.now.most = ap (λ (s : LiveAndDead). s.most) c.self.view_is in
    room_after c.self.inside.count c.self.inside.most (length (g.M.Recent.entries c.let_go.new.cache)) _ _ c.self.invariant.1 c.let_go.ensures.room c.let_go.ensures.free (omega (arith, c.requires.room))

pub invariant_of-self : goal.invariant_of-self
invariant_of-self g c =
    let held : EpochEntry = record { body = c.args.body; epoch = c.self.inside.epoch } in
    let absent : body_at c.args.key (live c.self.inside.count (g.M.Recent.entries c.self.inside.cache)) ≡ None = ap (λ (s : LiveAndDead). body_at c.args.key s.items) c.self.view_is ∙ c.requires.absent in
    let new = puts c.args.key c.self.inside.epoch c.self.inside.count (c.self.inside.count + 1) c.cost.result (g.M.Recent.entries c.self.inside.cache) (g.M.Recent.entries c.let_go.new.cache) (g.M.Recent.entries c.put.new.self) held
    c.self.invariant.0 c.let_go.ensures.go absent refl refl c.in-Ok.ensures.ok in
    (new.parted, same_room _ _ _ c.self.invariant.1 (c.put.ensures.room ∙ c.let_go.ensures.room))

pub returns-in-Ok-clause-ok : goal.returns-in-Ok-clause-ok
returns-in-Ok-clause-ok g c =
    let held : EpochEntry = record { body = c.args.body; epoch = c.self.inside.epoch } in
    let absent : body_at c.args.key (live c.self.inside.count (g.M.Recent.entries c.self.inside.cache)) ≡ None = ap (λ (s : LiveAndDead). body_at c.args.key s.items) c.self.view_is ∙ c.requires.absent in
    let new = puts c.args.key c.self.inside.epoch c.self.inside.count (c.self.inside.count + 1) c.cost.result (g.M.Recent.entries c.self.inside.cache) (g.M.Recent.entries c.let_go.new.cache) (g.M.Recent.entries c.put.new.self) held
    c.self.invariant.0 c.let_go.ensures.go absent refl refl c.in-Ok.ensures.ok in
    new.items ∙ ap (λ (s : LiveAndDead). (c.args.key, c.args.body) ∷ s.items) c.self.view_is

pub returns-in-Ok-clause-dead : goal.returns-in-Ok-clause-dead
returns-in-Ok-clause-dead g c =
    let held : EpochEntry = record { body = c.args.body; epoch = c.self.inside.epoch } in
    let absent : body_at c.args.key (live c.self.inside.count (g.M.Recent.entries c.self.inside.cache)) ≡ None = ap (λ (s : LiveAndDead). body_at c.args.key s.items) c.self.view_is ∙ c.requires.absent in
    let new = puts c.args.key c.self.inside.epoch c.self.inside.count (c.self.inside.count + 1) c.cost.result (g.M.Recent.entries c.self.inside.cache) (g.M.Recent.entries c.let_go.new.cache) (g.M.Recent.entries c.put.new.self) held
    c.self.invariant.0 c.let_go.ensures.go absent refl refl c.in-Ok.ensures.ok in
    subst (λ (es : Entries). IsGivenBack c.args.key (cost_of c.args.key c.args.body.value) es (drop (c.self.inside.count + 1) (g.M.Recent.entries c.put.new.self))) (ap (λ (s : LiveAndDead). s.dead) c.self.view_is)
    (subst (λ (p : ℕ). IsGivenBack c.args.key p (drop c.self.inside.count (g.M.Recent.entries c.self.inside.cache)) (drop (c.self.inside.count + 1) (g.M.Recent.entries c.put.new.self))) c.cost.ensures new.dead)

pub invariant_of-self-in-Err : goal.invariant_of-self-in-Err
invariant_of-self-in-Err g c =
    let left = leaves c.self.inside.epoch c.self.inside.count c.cost.result (g.M.Recent.entries c.self.inside.cache) (g.M.Recent.entries c.let_go.new.cache) c.self.invariant.0 c.let_go.ensures.go in
    (subst (λ (es : Entries). IsParted c.self.inside.epoch c.self.inside.count es) (sym c.in-Err.ensures.err) left.0, same_room _ _ _ c.self.invariant.1 (c.put.ensures.room ∙ c.let_go.ensures.room))

pub returns-in-Err-clause-err : goal.returns-in-Err-clause-err
returns-in-Err-clause-err g c =
    let left = leaves c.self.inside.epoch c.self.inside.count c.cost.result (g.M.Recent.entries c.self.inside.cache) (g.M.Recent.entries c.let_go.new.cache) c.self.invariant.0 c.let_go.ensures.go in
    ap (λ (es : Entries). live c.self.inside.count es) c.in-Err.ensures.err ∙ left.1 ∙ ap (λ (s : LiveAndDead). s.items) c.self.view_is

pub returns-in-Err-clause-dead_err : goal.returns-in-Err-clause-dead_err
returns-in-Err-clause-dead_err g c =
    let dead : IsLetGo c.cost.result 0 (drop c.self.inside.count (g.M.Recent.entries c.self.inside.cache)) (drop c.self.inside.count (g.M.Recent.entries c.let_go.new.cache)) = dead_let_go c.cost.result c.self.inside.count (g.M.Recent.entries c.self.inside.cache) (g.M.Recent.entries c.let_go.new.cache) c.let_go.ensures.go in
    subst (λ (es : Entries). IsLetGo (cost_of c.args.key c.args.body.value) 0 es (drop c.self.inside.count (g.M.Recent.entries c.put.new.self))) (ap (λ (s : LiveAndDead). s.dead) c.self.view_is)
    (subst (λ (es : Entries). IsLetGo (cost_of c.args.key c.args.body.value) 0 (drop c.self.inside.count (g.M.Recent.entries c.self.inside.cache)) (drop c.self.inside.count es)) (sym c.in-Err.ensures.err)
    (subst (λ (p : ℕ). IsLetGo p 0 (drop c.self.inside.count (g.M.Recent.entries c.self.inside.cache)) (drop c.self.inside.count (g.M.Recent.entries c.let_go.new.cache))) c.cost.ensures dead))
