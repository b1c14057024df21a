use Rattle.std.proofs.Common.{sym, ap, ◌∙◌}
use Rattle.mc_store.specs.Items.{body_at}
use Rattle.mc_store.specs.Epochs.{LiveAndDead}
use Rattle.mc_store.proofs.EpochLemmas.{looks_live, looks_dead, looks_none}
use Rattle.mc_store.proofs.epoch_cache.EpochCache.find.Goals as goal

pub returns-in_err-hint : goal.returns-in_err-hint
returns-in_err-hint g c =
    rw c.from_residual.ensures
    (sym (sym (ap (λ (s : LiveAndDead). body_at c.args.key.now s.items) c.self.view_is) ∙ looks_none c.args.key.now c.self.inside.count (g.M.Recent.entries c.self.inside.cache) (sym c.in_err-hint.ensures)))

pub returns-then-self-held : goal.returns-then-self-held
returns-then-self-held g c =
    sym (sym (ap (λ (s : LiveAndDead). body_at c.args.key.now s.items) c.self.view_is) ∙ looks_dead c.args.key.now c.self.inside.epoch c.self.inside.count (g.M.Recent.entries c.self.inside.cache) c.in_ok-hint.held.now c.self.invariant.0 (sym c.in_ok-hint.ensures) (λ e. c.if-self-held.true (sym e)))

pub returns : goal.returns
returns g c =
    sym (sym (ap (λ (s : LiveAndDead). body_at c.args.key.now s.items) c.self.view_is) ∙ (looks_live c.args.key.now c.self.inside.epoch c.self.inside.count (g.M.Recent.entries c.self.inside.cache) c.in_ok-hint.held.now c.self.invariant.0 (sym c.in_ok-hint.ensures) (sym c.if-self-held.false)).body)
