use Rattle.std.proofs.Common.{◌≡◌, ℕ, List, None, refl, sym, subst}
use Rattle.std.specs.Prelude.{OnOk}
use Rattle.mc_store.specs.Items.{body_at}
use Rattle.mc_cache.specs.Step.{with_item}
use Rattle.mc_cache.proofs.caches.Cache.put_copied.Goals as goal

-- nothing has changed before the key is copied
pub put_new-requires-clause-absent : goal.put_new-requires-clause-absent
put_new-requires-clause-absent g c = subst (λ (k : List ℕ). body_at k c.args.self.now.items ≡ None) (sym c.in-Ok.ensures.key) c.requires.absent

pub returns-in-Ok-clause-ok : goal.returns-in-Ok-clause-ok
returns-in-Ok-clause-ok g c =
    subst (λ (k : List ℕ). OnOk c.put_new.result (c.put_new.new.self ≡ with_item c.args.self.now k c.args.body)) c.in-Ok.ensures.key c.put_new.ensures.ok

pub returns-in-Ok-clause-err : goal.returns-in-Ok-clause-err
returns-in-Ok-clause-err g c = c.put_new.ensures.err

-- it changes nothing if the key was not copied
pub returns-in-Err-clause-err : goal.returns-in-Err-clause-err
returns-in-Err-clause-err g c = refl
