use Rattle.std.proofs.Common.{◌≡◌, ◌&&◌, Bool, true, false, Option, Some, None, is_some, is_none, refl}
use Rattle.mc_cache.proofs.laws.what_stores_nothing_needs_no_memory.Goals as goal

-- what is answered already goes no further
answered : {A : Type 0} (o : Option A) (b : Bool) → is_some o ≡ true → (is_none o && b) ≡ false
answered None b some = absurd cc
answered (Some x) b some = refl

pub returns-clause-store : goal.returns-clause-store
returns-clause-store c = λ s key moment compare mode nothing flags exptime block. answered _ _ nothing

pub returns-clause-compared : goal.returns-clause-compared
returns-clause-compared c = λ s key moment body finds counting differs. rw finds (answered _ _ differs)
