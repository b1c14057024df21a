use Rattle.std.proofs.Common.{◌≡◌, true, is_some}
use Rattle.mc_store.specs.Items.{body_at}
use Rattle.mc_cache.proofs.HeldLemmas.{bare_is_cheap, held-lifted}
use Rattle.mc_cache.proofs.caches.Cache.lift.Goals as goal

pub replace-requires : goal.replace-requires
replace-requires g c =
    let held : is_some (body_at c.args.key.now (g.S.Store.items c.self.inside.store)) ≡ true = cc in
    bare_is_cheap _ _ _ _ _ c.new.ensures held c.self.invariant.0

pub invariant_of-self : goal.invariant_of-self
invariant_of-self g c =
    (held-lifted _ _ _ _ _ _ _ _ c.new.ensures c.unwrap.ensures c.replace.ensures.before c.replace.ensures.ok c.self.invariant.0, rw c.replace.ensures.most c.self.invariant.1)
